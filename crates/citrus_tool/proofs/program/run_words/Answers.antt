use Rattle.citrus_tool.proofs.program.run_words.Goals as goal

pub returns-clause-told : goal.returns-clause-told
returns-clause-told g c = λ quiet. (c.tool-outcome.result.detail, c.tool-outcome.ensures.detail, c.tell.ensures.told quiet)
