-- The command line as clap reads it: one simple command, with three options and up to three words.
use Rattle.std.specs.Prelude.{ℕ, List, [], ◌∷◌, Option, None, Some, codes, true}
use Rattle.clap.specs.Words.{App, Rule, first_value, new_app, new_rule, with_rule}
use Rattle.clap.specs.declared.parser.matches.Found.{Found}
use Rattle.command_line.specs.Rule.{Parts}

abbrev pub option_rule : List ℕ → Rule
option_rule id = record (new_rule id) { long = Some id }

abbrev pub top_app : App
top_app = let a = new_app (codes "elab_cli") in record a { top = record a.top { no_binary_name = true; disable_help_flag = true } }

abbrev pub app : App
app = with_rule (with_rule (with_rule (with_rule (with_rule (with_rule top_app
    (option_rule (codes "fuel"))) (option_rule (codes "depth"))) (option_rule (codes "order")))
    (new_rule (codes "mode"))) (new_rule (codes "first"))) (new_rule (codes "second"))

-- the words that are left, of three that may be there
abbrev pub left_of : Option (List ℕ) → Option (List ℕ) → Option (List ℕ) → List (List ℕ)
left_of None first second = []
left_of (Some mode) None second = mode ∷ []
left_of (Some mode) (Some first) None = mode ∷ first ∷ []
left_of (Some mode) (Some first) (Some second) = mode ∷ first ∷ second ∷ []

-- the parts of the words, as clap's matches give them
abbrev pub parts_in : Found → Parts
parts_in f = record {
  fuel = first_value f (codes "fuel");
  depth = first_value f (codes "depth");
  order = first_value f (codes "order");
  left = left_of (first_value f (codes "mode")) (first_value f (codes "first")) (first_value f (codes "second"));
}
