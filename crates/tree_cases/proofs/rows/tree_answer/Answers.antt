use Rattle.std.proofs.Common.{arith}
use Rattle.tree_cases.proofs.Standing.{stands_longer}
use Rattle.tree_cases.proofs.rows.tree_answer.Goals as goal

pub tree_words-requires : goal.tree_words-requires
tree_words-requires c = stands_longer c.args.world.now.pool c.case_tree.new.pool c.args.world.now.sig (omega arith) c.requires
