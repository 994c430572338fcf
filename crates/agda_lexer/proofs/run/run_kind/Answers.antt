use Rattle.agda_lexer.proofs.Table.{found_is, not_found}
use Rattle.agda_lexer.proofs.run.run_kind.Goals as goal

pub returns-in-Some : goal.returns-in-Some
returns-in-Some c = found_is c.args.word.now _ _ c.as_bytes.ensures.value c.in-Some.ensures

pub returns-in-None : goal.returns-in-None
returns-in-None c = not_found c.args.word.now _ _ c.as_bytes.ensures.value c.in-None.ensures c.name_kind.ensures
