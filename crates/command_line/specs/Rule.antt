-- The rule of words: which words are options with their values, and which are left.
use Rattle.std.specs.Prelude.{◌≡◌, ◌&&◌, ℕ, true, not, IfSome, List, [], ◌∷◌, ◌++◌, Option, Some, None, is_some, option_map, option_and_then, if◌then◌else◌}
use Rattle.command_line.specs.declared.limit.Limit.{Limit}
use Rattle.command_line.specs.declared.limit.Limit.TheVariants.{Fuel, Depth, Order}
use Rattle.command_line.specs.declared.rule.Next.{Next}
use Rattle.command_line.specs.declared.rule.Next.TheVariants.{Word, Value, Left}
use Rattle.command_line.specs.Limit.{is_value}
use Rattle.command_line.specs.Word.{Kind, ends, takes, gives, plain, refused, kind_of}

-- what words give: the value of each option that is among them, and the words that are left
pub record Parts : Type 0 where
  pub fuel : Option (List ℕ)
  pub depth : Option (List ℕ)
  pub order : Option (List ℕ)
  pub left : List (List ℕ)

abbrev pub nothing : Parts
nothing = record { fuel = None; depth = None; order = None; left = [] }

abbrev pub given : Limit → Parts → Option (List ℕ)
given Fuel p = p.fuel
given Depth p = p.depth
given Order p = p.order

abbrev pub with_given : Limit → List ℕ → Parts → Parts
with_given Fuel text p = record p { fuel = Some text }
with_given Depth text p = record p { depth = Some text }
with_given Order text p = record p { order = Some text }

-- an option stands at most once, and its value is a number in its range
abbrev pub with_value : Limit → List ℕ → Parts → Option Parts
with_value limit text p = if not (is_some (given limit p)) && is_value limit text then Some (with_given limit text p) else None

abbrev pub with_left : List ℕ → Parts → Parts
with_left word p = record p { left = p.left ++ word ∷ [] }

-- the parts after a word, and what may follow it
abbrev pub after_kind : Kind → List ℕ → Parts → Option (Next × Parts)
after_kind ends word p = Some (Left, p)
after_kind (takes limit) word p = Some (Value limit, p)
after_kind (gives limit text) word p = option_map (λ q. (Word, q)) (with_value limit text p)
after_kind plain word p = Some (Word, with_left word p)
after_kind refused word p = None

abbrev pub after_word : Next → List ℕ → Parts → Option (Next × Parts)
after_word Word word p = after_kind (kind_of word) word p
after_word (Value limit) word p = option_map (λ q. (Word, q)) (with_value limit word p)
after_word Left word p = Some (Left, with_left word p)

-- at the end of the words: an option may not wait for its value
abbrev pub at_end : Next → Parts → Option Parts
at_end Word p = Some p
at_end (Value limit) p = None
at_end Left p = Some p

-- the words, read from the first to the last
abbrev pub read : List (List ℕ) → Next → Parts → Option Parts
read [] next p = at_end next p
read (word ∷ rest) next p = option_and_then (λ s. read rest s.0 s.1) (after_word next word p)

-- each option that is given has a value that it takes
pub record AreValues (p : Parts) : Type 0 where
  pub fuel_value : IfSome p.fuel (λ text. is_value Fuel text ≡ true)
  pub depth_value : IfSome p.depth (λ text. is_value Depth text ≡ true)
  pub order_value : IfSome p.order (λ text. is_value Order text ≡ true)
