-- An account's text: its lines, their words, and what of them was read.
use Rattle.std.proofs.Common.{◌≡◌, ◌≢◌, ℕ, ◌+◌, ◌^◌, ◌<◌, ◌≤◌, List, [], ◌∷◌, ◌++◌, length, map, codes, refl, sym, ap, ◌∙◌, arith, append_assoc, flat_map, ◌⊎◌, inl, inr, subst, length-append}
use Rattle.std.specs.Fmt.{decimal}
use Rattle.std.specs.List.{AllByRecursion}
use Rattle.std.proofs.lemmas.List.{length-map, append-nil}
use Rattle.std.proofs.lemmas.List.Elements.{All-append, All-from_recursion, All-head, All-tail}
use Rattle.prcu_model.specs.declared.operation.Op.{Op}
use Rattle.prcu_model.specs.declared.operation.Reply.{Reply}
use Rattle.prcu_model.specs.declared.operation.Reply.TheVariants.{New, Old, Full, Val, Absent, Gone, Was}
use Rattle.prcu_model.specs.declared.operation.Line.{Line}
use Rattle.prcu_model.specs.declared.operation.Update.{Update}
use Rattle.prcu_model.specs.Scripts.{FitsWords}
use Rattle.script_text.specs.Grammar.{lines_of, op_text, Lacks, IsParted}
use Rattle.script_text.proofs.ScriptTexts.{lines_of-parted, Lacks-decimal, Lacks-op_text, same_parts, word_of, words_of, op_text_is}
use Rattle.prcu_model.specs.Fronts.{ops_of}
use Rattle.account_text.specs.Account.{reply_text, line_text, scripts_from, history_from, pair_text, account_of, FitsReply, FitsLine, FitsUpdate, Fit, line_body, script_head, history_head, update_body, scripts_lines, history_lines, TellsScripts, told_of, tolds_of, TellsScript, TellsUpdates}
use Rattle.prcu_model.specs.declared.operation.Op.TheVariants.{Put, Get, Del, Set}
use Rattle.prcu_model.specs.Dictionary.{key_of}
use Rattle.prcu_model.specs.declared.operation.Told.{Told}

-- The lines of an account's text.

-- lists without byte 10, joined
both : (a b : List ℕ) → Lacks a 10 → Lacks b 10 → Lacks (a ++ b) 10
both a b la lb = All-append (λ x. x ≢ 10) a b la lb

number : (n : ℕ) → n < 2 ^ 64 → Lacks (decimal n) 10
number n small = Lacks-decimal n 10 small (omega arith)

space : Lacks (codes " ") 10
space = All-from_recursion (λ b. b ≢ 10) (codes " ") (omega arith, tt)

five : (a b c d e : ℕ) → (a ≢ 10) × (b ≢ 10) × (c ≢ 10) × (d ≢ 10) × (e ≢ 10) → Lacks (a ∷ b ∷ c ∷ d ∷ e ∷ []) 10
five a b c d e h = All-from_recursion (λ x. x ≢ 10) (a ∷ b ∷ c ∷ d ∷ e ∷ []) (h.0, (h.1, (h.2, (h.3, (h.4, tt)))))

four : (a b c d : ℕ) → (a ≢ 10) × (b ≢ 10) × (c ≢ 10) × (d ≢ 10) → Lacks (a ∷ b ∷ c ∷ d ∷ []) 10
four a b c d h = All-from_recursion (λ x. x ≢ 10) (a ∷ b ∷ c ∷ d ∷ []) (h.0, (h.1, (h.2, (h.3, tt))))

Lacks-reply_text : (reply : Reply) → FitsReply reply → Lacks (reply_text reply) 10
Lacks-reply_text New fits = four 110 101 119 32 (omega arith, omega arith, omega arith, omega arith)
Lacks-reply_text Old fits = four 111 108 100 32 (omega arith, omega arith, omega arith, omega arith)
Lacks-reply_text Full fits = five 102 117 108 108 32 (omega arith, omega arith, omega arith, omega arith, omega arith)
Lacks-reply_text (Val value) fits = both (codes "val " ++ decimal value) (codes " ")
    (both (codes "val ") (decimal value) (four 118 97 108 32 (omega arith, omega arith, omega arith, omega arith))
    (number value fits)) space
Lacks-reply_text Absent fits = five 110 111 110 101 32 (omega arith, omega arith, omega arith, omega arith, omega arith)
Lacks-reply_text Gone fits = five 103 111 110 101 32 (omega arith, omega arith, omega arith, omega arith, omega arith)
Lacks-reply_text (Was value) fits = both (codes "was " ++ decimal value) (codes " ")
    (both (codes "was ") (decimal value) (four 119 97 115 32 (omega arith, omega arith, omega arith, omega arith))
    (number value fits)) space

Lacks-line_body : (line : Line) → FitsWords line.op → FitsLine line → Lacks (line_body line) 10
Lacks-line_body line op_fits fits =
    both (op_text line.op ++ codes " " ++ reply_text line.reply) (decimal line.number)
    (both (op_text line.op ++ codes " ") (reply_text line.reply)
    (both (op_text line.op) (codes " ") (Lacks-op_text line.op 10 op_fits (omega arith)) space) (Lacks-reply_text line.reply fits.0))
    (number line.number fits.1)

Lacks-script_head : (i : ℕ) → i < 2 ^ 64 → Lacks (script_head i) 10
Lacks-script_head i small =
    both (codes "script ") (decimal i)
    (All-from_recursion (λ b. b ≢ 10) (codes "script ")
    (omega arith, (omega arith, (omega arith, (omega arith, (omega arith, (omega arith, (omega arith, tt))))))))
    (number i small)

Lacks-history_head : (n : ℕ) → n < 2 ^ 64 → Lacks (history_head n) 10
Lacks-history_head n small =
    both (codes "history ") (decimal n)
    (All-from_recursion (λ b. b ≢ 10) (codes "history ")
    (omega arith, (omega arith, (omega arith, (omega arith, (omega arith, (omega arith, (omega arith, (omega arith, tt)))))))))
    (number n small)

Lacks-update_body : (n : ℕ) (u : Update) → n < 2 ^ 64 → FitsUpdate u → Lacks (update_body n u) 10
Lacks-update_body n u small fits =
    both (decimal n ++ codes " " ++ decimal u.caller ++ codes " ") (op_text u.op)
    (both (decimal n ++ codes " " ++ decimal u.caller) (codes " ")
    (both (decimal n ++ codes " ") (decimal u.caller) (both (decimal n) (codes " ") (number n small) space)
    (number u.caller (omega (arith, fits.0)))) space)
    (Lacks-op_text u.op 10 fits.1 (omega arith))

-- a line with its byte 10, before others and a rest
cut : (line others rest : List ℕ) → Lacks line 10 → lines_of (((line ++ 10 ∷ []) ++ others) ++ rest) ≡ line ∷ lines_of (others ++ rest)
cut line others rest lacks =
    ap lines_of (append_assoc (line ++ 10 ∷ []) others rest ∙ append_assoc line (10 ∷ []) (others ++ rest))
    ∙ lines_of-parted line (others ++ rest) lacks

lines_of-script : (lines : List Line) (rest : List ℕ) → AllByRecursion FitsWords (ops_of lines) → AllByRecursion FitsLine lines
    → lines_of (flat_map line_text lines ++ rest) ≡ map line_body lines ++ lines_of rest
lines_of-script [] rest ops fits = refl
lines_of-script (line ∷ lines) rest ops fits =
    cut (line_body line) (flat_map line_text lines) rest (Lacks-line_body line ops.0 fits.0)
    ∙ ap (λ x. line_body line ∷ x) (lines_of-script lines rest ops.1 fits.1)

lines_of-scripts : (i : ℕ) (scripts : List (List Line)) (rest : List ℕ) → i + length scripts ≤ 2 ^ 64
    → AllByRecursion (AllByRecursion FitsWords) (map ops_of scripts) → AllByRecursion (AllByRecursion FitsLine) scripts
    → lines_of (scripts_from i scripts ++ rest) ≡ scripts_lines i scripts ++ lines_of rest
lines_of-scripts i [] rest small ops fits = refl
lines_of-scripts i (lines ∷ scripts) rest small ops fits =
    let others = scripts_from (i + 1) scripts in
    let body = flat_map line_text lines in
    ap (λ x. lines_of (x ++ rest)) (append_assoc (script_head i ++ 10 ∷ []) body others)
    ∙ cut (script_head i) (body ++ others) rest (Lacks-script_head i (omega arith))
    ∙ ap (λ x. script_head i ∷ x)
    (ap lines_of (append_assoc body others rest)
    ∙ lines_of-script lines (others ++ rest) ops.0 fits.0
    ∙ ap (λ x. map line_body lines ++ x) (lines_of-scripts (i + 1) scripts rest (omega arith) ops.1 fits.1)
    ∙ sym (append_assoc (map line_body lines) (scripts_lines (i + 1) scripts) (lines_of rest)))

lines_of-updates : (n : ℕ) (updates : List Update) (rest : List ℕ) → n + length updates ≤ 2 ^ 64 → AllByRecursion FitsUpdate updates
    → lines_of (history_from n updates ++ rest) ≡ history_lines n updates ++ lines_of rest
lines_of-updates n [] rest small fits = refl
lines_of-updates n (u ∷ us) rest small fits =
    cut (update_body n u) (history_from (n + 1) us) rest (Lacks-update_body n u (omega arith) fits.0)
    ∙ ap (λ x. update_body n u ∷ x) (lines_of-updates (n + 1) us rest (omega arith) fits.1)

-- what stands after the history
abbrev pub final_part : List (ℕ × ℕ) → List ℕ
final_part final = (codes "final " ++ decimal (length final) ++ codes "\n" ++ flat_map pair_text final) ++ codes "end\n"

-- An account's text begins with the lines of its scripts, and then has those of its history.
pub lines_of-account : (scripts : List (List Op)) (lines : List (List Line)) (history : List Update) (final : List (ℕ × ℕ))
    → length scripts ≤ 64 → Fit scripts lines history
    → lines_of (account_of lines history final) ≡ scripts_lines 0 lines
    ++ (history_head (length history) ∷ (history_lines 1 history ++ lines_of (final_part final)))
lines_of-account scripts lines history final few fit =
    let count : length lines ≡ length scripts = sym (length-map lines ops_of) ∙ ap length fit.ops in
    let tail = final_part final in
    let ending = codes "end\n" in
    let finals = codes "final " ++ decimal (length final) ++ codes "\n" ++ flat_map pair_text final in
    let updates = history_from 1 history in
    let part = codes "history " ++ decimal (length history) ++ codes "\n" ++ updates in
    ap lines_of (append_assoc (scripts_from 0 lines ++ part) finals ending ∙ append_assoc (scripts_from 0 lines) part tail)
    ∙ lines_of-scripts 0 lines (part ++ tail) (omega arith) (rw fit.ops fit.scripts_fit) fit.lines_fit
    ∙ ap (λ x. scripts_lines 0 lines ++ x)
    (cut (history_head (length history)) updates tail (Lacks-history_head (length history) fit.short)
    ∙ ap (λ x. history_head (length history) ∷ x) (lines_of-updates 1 history tail (omega (arith, fit.short)) fit.history_fits))

-- So it tells of the scripts.
pub account_tells : (scripts : List (List Op)) (lines : List (List Line)) (history : List Update) (final : List (ℕ × ℕ)) (text : List ℕ)
    → length scripts ≤ 64 → Fit scripts lines history → text ≡ account_of lines history final
    → TellsScripts 0 text scripts lines (history_head (length history) ∷ (history_lines 1 history ++ lines_of (final_part final)))
account_tells scripts lines history final text few fit is = record {
  ops = fit.ops;
  ops_fit = fit.scripts_fit;
  lines_fit = fit.lines_fit;
  begins = ap lines_of is ∙ lines_of-account scripts lines history final few fit;
}

-- Cutting an account's line into its words.

no_space_before : (word rest : List ℕ) → Lacks (word ++ 32 ∷ rest) 32 → ⊥
no_space_before [] rest l = All-head (λ b. b ≢ 32) 32 rest l refl
no_space_before (w ∷ word) rest l = no_space_before word rest (All-tail (λ b. b ≢ 32) w (word ++ 32 ∷ rest) l)

-- Bytes with a space have a first one.
pub no_space : (bytes word rest : List ℕ) → Lacks bytes 32 → bytes ≡ word ++ 32 ∷ rest → ⊥
no_space bytes word rest l is =
    let P : List ℕ → Type 0 = λ x. Lacks x 32 in
    no_space_before word rest (subst P is l)

-- A word without a space is what stands before the first space.
pub at_space : (bytes front after word rest : List ℕ) → IsParted bytes 32 front after → Lacks word 32 → bytes ≡ word ++ 32 ∷ rest
    → (front ≡ word) × (after ≡ rest)
at_space bytes front after word rest p l is = same_parts 32 front word after rest p.first l (sym p.whole ∙ is)

-- what stands after the operation's key and a space, where this follows the operation and a space
abbrev pub after_key : Op → List ℕ → List ℕ
after_key (Put key value) rest = decimal value ++ 32 ∷ rest
after_key (Set key value) rest = decimal value ++ 32 ∷ rest
after_key _ rest = rest

pub key_fits : (op : Op) → FitsWords op → key_of op < 2 ^ 64
key_fits (Put key value) fits = fits.0
key_fits (Set key value) fits = fits.0
key_fits _ fits = fits

pub op_words : (op : Op) (rest : List ℕ) → op_text op ++ 32 ∷ rest ≡ word_of op ++ 32 ∷ (words_of op ++ 32 ∷ rest)
op_words op rest = ap (λ x. x ++ 32 ∷ rest) (op_text_is op) ∙ append_assoc (word_of op) (32 ∷ words_of op) (32 ∷ rest)

pub key_words : (op : Op) (rest : List ℕ) → words_of op ++ 32 ∷ rest ≡ decimal (key_of op) ++ 32 ∷ after_key op rest
key_words (Put key value) rest = append_assoc (decimal key) (32 ∷ decimal value) (32 ∷ rest)
key_words (Set key value) rest = append_assoc (decimal key) (32 ∷ decimal value) (32 ∷ rest)
key_words _ rest = refl

pub after_key-short : (op : Op) (rest : List ℕ) → ((key : ℕ) × (op ≡ Get key)) ⊎ ((key : ℕ) × (op ≡ Del key)) → after_key op rest ≡ rest
after_key-short op rest (inl h) = ap (λ o. after_key o rest) h.1
after_key-short op rest (inr h) = ap (λ o. after_key o rest) h.1

pub after_key-long : (op : Op) (rest : List ℕ) → FitsWords op
    → ((key : ℕ) × (value : ℕ) × (op ≡ Put key value)) ⊎ ((key : ℕ) × (value : ℕ) × (op ≡ Set key value))
    → (value : ℕ) × (value < 2 ^ 64) × (after_key op rest ≡ decimal value ++ 32 ∷ rest)
after_key-long op rest fits (inl (key, value, is)) = (value, (subst FitsWords is fits).1, ap (λ o. after_key o rest) is)
after_key-long op rest fits (inr (key, value, is)) = (value, (subst FitsWords is fits).1, ap (λ o. after_key o rest) is)

-- an update's line, cut at its first two spaces
pub update_words : (n : ℕ) (update : Update) → update_body n update ≡ decimal n ++ 32 ∷ (decimal update.caller ++ 32 ∷ op_text update.op)
update_words n update = simp append_assoc

pub Lacks-history : Lacks (codes "history") 32
Lacks-history =
    All-from_recursion (λ b. b ≢ 32) (codes "history")
    (omega arith, (omega arith, (omega arith, (omega arith, (omega arith, (omega arith, (omega arith, tt)))))))

-- What of an account was read, and what is left.

-- The rest of a text begins with the script's lines that are left, and the entries are what the others tell.
pub record HasRead (rest : List ℕ) (script : List Op) (entries : List Told) (lines : List Line) (more : List (List ℕ)) : Type 0 where
  pub left : List Line
  pub tells : TellsScript rest script left more
  pub all : entries ++ tolds_of left ≡ tolds_of lines

-- what the first line of the rest gives
pub record FirstLine (rest : List ℕ) (op : Op) (ops : List Op) (entries : List Told) (lines : List Line)
    (more : List (List ℕ)) : Type 0 where
  pub line : Line
  pub others : List (List ℕ)
  pub op_is : line.op ≡ op
  pub op_fits : FitsWords op
  pub line_fits : FitsLine line
  pub begins : lines_of rest ≡ line_body line ∷ others
  pub next : (after : List ℕ) (told : Told) (grown : List Told) → told ≡ told_of line → lines_of after ≡ others
      → grown ≡ entries ++ told ∷ [] → HasRead after ops grown lines more

first_of : (rest : List ℕ) (op : Op) (ops : List Op) (entries : List Told) (lines : List Line) (more : List (List ℕ)) (left : List Line)
    → TellsScript rest (op ∷ ops) left more → entries ++ tolds_of left ≡ tolds_of lines → FirstLine rest op ops entries lines more
first_of rest op ops entries lines more [] t all = absurd (cc (t.ops))
first_of rest op ops entries lines more (line ∷ left) t all = record {
  line = line;
  others = map line_body left ++ more;
  op_is = cc (t.ops);
  op_fits = t.ops_fit.0;
  line_fits = t.lines_fit.0;
  begins = t.begins;
  next = λ after told grown is cut more_read. record {
    left = left;
    tells = record { ops = cc (t.ops); ops_fit = t.ops_fit.1; lines_fit = t.lines_fit.1; begins = cut };
    all = ap (λ x. x ++ tolds_of left) (more_read ∙ ap (λ x. entries ++ x ∷ []) is)
        ∙ append_assoc entries (told_of line ∷ []) (tolds_of left) ∙ all;
  };
}

pub first_line : (rest : List ℕ) (op : Op) (ops : List Op) (entries : List Told) (lines : List Line) (more : List (List ℕ))
    → HasRead rest (op ∷ ops) entries lines more → FirstLine rest op ops entries lines more
first_line rest op ops entries lines more h = first_of rest op ops entries lines more h.left h.tells h.all

lines_at_end : (rest : List ℕ) (entries : List Told) (lines : List Line) (more : List (List ℕ)) (left : List Line)
    → TellsScript rest [] left more → entries ++ tolds_of left ≡ tolds_of lines → (entries ≡ tolds_of lines) × (lines_of rest ≡ more)
lines_at_end rest entries lines more [] t all = (sym (append-nil entries) ∙ all, t.begins)
lines_at_end rest entries lines more (line ∷ left) t all = absurd (cc (t.ops))

-- Where no operation is left, all was read.
pub HasRead-end : (rest : List ℕ) (entries : List Told) (lines : List Line) (more : List (List ℕ)) → HasRead rest [] entries lines more
    → (entries ≡ tolds_of lines) × (lines_of rest ≡ more)
HasRead-end rest entries lines more h = lines_at_end rest entries lines more h.left h.tells h.all

-- the same for scripts, of which the first that is left has this number
pub record HasReadScripts (i : ℕ) (rest : List ℕ) (scripts : List (List Op)) (entries : List (List Told)) (lines : List (List Line))
    (more : List (List ℕ)) : Type 0 where
  pub left : List (List Line)
  pub tells : TellsScripts i rest scripts left more
  pub all : entries ++ map tolds_of left ≡ map tolds_of lines

-- what the first script of the rest gives
pub record FirstScript (i : ℕ) (rest : List ℕ) (script : List Op) (scripts : List (List Op)) (entries : List (List Told))
    (lines : List (List Line)) (more : List (List ℕ)) : Type 0 where
  pub part : List Line
  pub body_lines : List (List ℕ)
  pub others : List (List ℕ)
  pub begins : lines_of rest ≡ script_head i ∷ body_lines
  pub tells : (body : List ℕ) → lines_of body ≡ body_lines → TellsScript body script part others
  pub next : (after : List ℕ) (told : List Told) (grown : List (List Told)) → told ≡ tolds_of part → lines_of after ≡ others
      → grown ≡ entries ++ told ∷ [] → HasReadScripts (i + 1) after scripts grown lines more

first_script_of : (i : ℕ) (rest : List ℕ) (script : List Op) (scripts : List (List Op)) (entries : List (List Told))
    (lines : List (List Line)) (more : List (List ℕ)) (left : List (List Line)) → TellsScripts i rest (script ∷ scripts) left more
    → entries ++ map tolds_of left ≡ map tolds_of lines → FirstScript i rest script scripts entries lines more
first_script_of i rest script scripts entries lines more [] t all = absurd (cc (t.ops))
first_script_of i rest script scripts entries lines more (part ∷ left) t all = record {
  part = part;
  body_lines = map line_body part ++ (scripts_lines (i + 1) left ++ more);
  others = scripts_lines (i + 1) left ++ more;
  begins = t.begins ∙ ap (λ x. script_head i ∷ x) (append_assoc (map line_body part) (scripts_lines (i + 1) left) more);
  tells = λ body is. record { ops = cc (t.ops); ops_fit = t.ops_fit.0; lines_fit = t.lines_fit.0; begins = is };
  next = λ after told grown is cut more_read. record {
    left = left;
    tells = record { ops = cc (t.ops); ops_fit = t.ops_fit.1; lines_fit = t.lines_fit.1; begins = cut };
    all = ap (λ x. x ++ map tolds_of left) (more_read ∙ ap (λ x. entries ++ x ∷ []) is)
        ∙ append_assoc entries (tolds_of part ∷ []) (map tolds_of left) ∙ all;
  };
}

pub first_script : (i : ℕ) (rest : List ℕ) (script : List Op) (scripts : List (List Op)) (entries : List (List Told))
    (lines : List (List Line)) (more : List (List ℕ)) → HasReadScripts i rest (script ∷ scripts) entries lines more
    → FirstScript i rest script scripts entries lines more
first_script i rest script scripts entries lines more h = first_script_of i rest script scripts entries lines more h.left h.tells h.all

scripts_at_end : (i : ℕ) (rest : List ℕ) (entries : List (List Told)) (lines : List (List Line)) (more : List (List ℕ))
    (left : List (List Line)) → TellsScripts i rest [] left more → entries ++ map tolds_of left ≡ map tolds_of lines
    → (entries ≡ map tolds_of lines) × (lines_of rest ≡ more)
scripts_at_end i rest entries lines more [] t all = (sym (append-nil entries) ∙ all, t.begins)
scripts_at_end i rest entries lines more (part ∷ left) t all = absurd (cc (t.ops))

pub HasReadScripts-end : (i : ℕ) (rest : List ℕ) (entries : List (List Told)) (lines : List (List Line)) (more : List (List ℕ))
    → HasReadScripts i rest [] entries lines more → (entries ≡ map tolds_of lines) × (lines_of rest ≡ more)
HasReadScripts-end i rest entries lines more h = scripts_at_end i rest entries lines more h.left h.tells h.all

-- the same for a history, of which the first update that is left has position n
pub record HasReadUpdates (rest : List ℕ) (read : List Update) (updates : List Update) (more : List (List ℕ)) : Type 0 where
  pub n : ℕ
  pub left : List Update
  pub tells : TellsUpdates n rest left more
  pub all : read ++ left ≡ updates
  pub small : n + length left ≤ 2 ^ 64

pub record FirstUpdate (rest : List ℕ) (read : List Update) (updates : List Update) (more : List (List ℕ)) : Type 0 where
  pub n : ℕ
  pub update : Update
  pub others : List (List ℕ)
  pub small : n < 2 ^ 64
  pub fits : FitsUpdate update
  pub begins : lines_of rest ≡ update_body n update ∷ others
  pub next : (after : List ℕ) (found : Update) (grown : List Update) → found ≡ update → lines_of after ≡ others → grown ≡ read ++ found ∷ []
      → HasReadUpdates after grown updates more

first_update_of : (rest : List ℕ) (read : List Update) (updates : List Update) (more : List (List ℕ)) (n : ℕ) (left : List Update)
    → length read < length updates → TellsUpdates n rest left more → read ++ left ≡ updates → n + length left ≤ 2 ^ 64
    → FirstUpdate rest read updates more
first_update_of rest read updates more n [] here t all small = absurd (omega (arith, ap length (sym (append-nil read) ∙ all)))
first_update_of rest read updates more n (update ∷ left) here t all small = record {
  n = n;
  update = update;
  others = history_lines (n + 1) left ++ more;
  small = omega arith;
  fits = t.fit.0;
  begins = t.begins;
  next = λ after found grown is cut more_read. record {
    n = n + 1;
    left = left;
    tells = record { fit = t.fit.1; begins = cut };
    all = ap (λ x. x ++ left) (more_read ∙ ap (λ x. read ++ x ∷ []) is) ∙ append_assoc read (update ∷ []) left ∙ all;
    small = omega arith;
  };
}

pub first_update : (rest : List ℕ) (read : List Update) (updates : List Update) (more : List (List ℕ)) → length read < length updates
    → HasReadUpdates rest read updates more → FirstUpdate rest read updates more
first_update rest read updates more here h = first_update_of rest read updates more h.n h.left here h.tells h.all h.small

updates_at_end : (read updates left : List Update) → length updates ≤ length read → read ++ left ≡ updates → read ≡ updates
updates_at_end read updates [] there all = sym (append-nil read) ∙ all
updates_at_end read updates (update ∷ left) there all = absurd (omega (arith, length-append read (update ∷ left), ap length all))

pub HasReadUpdates-end : (rest : List ℕ) (read : List Update) (updates : List Update) (more : List (List ℕ)) → length updates ≤ length read
    → HasReadUpdates rest read updates more → read ≡ updates
HasReadUpdates-end rest read updates more there h = updates_at_end read updates h.left there h.all
