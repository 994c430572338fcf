-- Joining does not see names.
use Rattle.core_rules.proofs.Names.Alike.{each_of}
use Rattle.core_rules.proofs.Names.Joined.{joins-named}
use Rattle.core_rules.proofs.name_laws.joins_of_same_terms.Goals as goal

pub returns : goal.returns
returns c = λ x y ss r q keep e h. joins-named x y ss r q keep (each_of r q e) h
