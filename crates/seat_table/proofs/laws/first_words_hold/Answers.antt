use Rattle.seat_table.proofs.Facts.{first_words_hold}
use Rattle.seat_table.proofs.laws.first_words_hold.Goals as goal

pub returns : goal.returns
returns c = first_words_hold
