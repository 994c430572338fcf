-- What the test of the rule keeps, word by word.
use Rattle.std.proofs.Common.{◌≡◌, ◌∙◌, ◌⊎◌, inl, inr, ◌≤◌, ◌<◌, ◌-◌, ℕ, suc, Bool, List, [], ◌∷◌, length, map, take, drop, get_or, arith, Option, Some, None, refl, sym, ap}
use Rattle.std.specs.Prelude.{is_some, option_map, option_and_then}
use Rattle.std.proofs.Math.Seq.{take-length}
use Rattle.command_line.specs.declared.rule.Next.{Next}
use Rattle.command_line.specs.declared.rule.Next.TheVariants.{Word, Value, Left}
use Rattle.command_line.specs.declared.rule.Seen.{Seen}
use Rattle.command_line.specs.declared.ask.Ask.{Ask}
use Rattle.command_line.specs.declared.ask.Mode.{Mode}
use Rattle.command_line.specs.declared.limit.Limit.{Limit}
use Rattle.command_line.specs.Ask.{ask_from, ask_with, mode_of}
use Rattle.command_line.specs.Rule.{Parts, after_word, read, with_value}
use Rattle.command_line.specs.Word.{gives, kind_of}
use Rattle.command_line.specs.Seen.{IsLeft, Sees, SeesAfter, SeesParts}

pub sees_value : (s : Seen) (o : Option Parts) → SeesParts (Some s) o → SeesAfter (Some (Word, s)) (option_map (λ q. (Word, q)) o)
sees_value s None h = h
sees_value s (Some q) h = (refl, h)

pub sees_next_value : (next : Next) (limit : Limit) (word : List ℕ) (p : Parts) (s : Seen) → next ≡ Value limit
    → SeesParts (Some s) (with_value limit word p)
    → SeesAfter (Some (Word, s)) (after_word next word p)
sees_next_value next limit word p s e h = rw e (sees_value s (with_value limit word p) h)

pub sees_joined : (next : Next) (limit : Limit) (word text : List ℕ) (p : Parts) (s : Seen) → next ≡ Word → gives limit text ≡ kind_of word
    → SeesParts (Some s) (with_value limit text p) → SeesAfter (Some (Word, s)) (after_word next word p)
sees_joined next limit word text p s e kind h = rw (e, ← kind) (sees_value s (with_value limit text p) h)

-- what the rest of the words asks for, after these parts
abbrev pub asked : List (List ℕ) → Next → Parts → Option Ask
asked words next p = option_and_then ask_from (read words next p)

abbrev asked_after : List (List ℕ) → Option (Next × Parts) → Option Ask
asked_after rest o = option_and_then ask_from (option_and_then (λ s. read rest s.0 s.1) o)

pub refused_word : (word : List ℕ) (rest : List (List ℕ)) (next : Next) (p : Parts) → SeesAfter None (after_word next word p)
    → asked (word ∷ rest) next p ≡ None
refused_word word rest next p h = go (after_word next word p) h
  where
    go : (o : Option (Next × Parts)) → SeesAfter None o → asked_after rest o ≡ None
    go None h = refl
    go (Some s) h = absurd h

-- the parts that the test has seen, with what the rest of the words asks for
pub record Stands (words : List (List ℕ)) (next : Next) (s : Seen) (ask : Option Ask) : Type 0 where
  pub parts : Parts
  pub sees : Sees s parts
  pub asks : asked words next parts ≡ ask

pub seen_word : (word : List ℕ) (rest : List (List ℕ)) (next : Next) (p : Parts) (s : Next × Seen) (ask : Option Ask)
    → SeesAfter (Some s) (after_word next word p) → asked (word ∷ rest) next p ≡ ask → Stands rest s.0 s.1 ask
seen_word word rest next p s ask h asks = go (after_word next word p) h asks
  where
    go : (o : Option (Next × Parts)) → SeesAfter (Some s) o → asked_after rest o ≡ ask → Stands rest s.0 s.1 ask
    go None h e = absurd h
    go (Some q) h e = record { parts = q.1; sees = h.1; asks = ap (λ n. asked rest n q.1) h.0 ∙ e }

some_ask : (p : Parts) (ask : Option Ask) → ask_from p ≡ ask → is_some (mode_of p.left) ≡ is_some ask
some_ask p ask e = go (mode_of p.left) ∙ ap (λ (o : Option Ask). is_some o) e
  where
    go : (o : Option Mode) → is_some o ≡ is_some (option_map (ask_with p) o)
    go None = refl
    go (Some mode) = refl

-- ---- the words that are left to read

unrolled : {X : Type 0} (rest : List X) (word : X) → 1 ≤ length rest → word ≡ get_or rest 0 word
    → rest ≡ word ∷ take (length rest - 1) (drop 1 rest)
unrolled [] word some is = absurd (omega arith)
unrolled (x ∷ xs) word some is =
    let less : suc (length xs) - 1 ≡ length xs = omega arith in
    ap (λ y. y ∷ xs) (sym is) ∙ ap (λ ys. word ∷ ys) (sym (take-length xs) ∙ ap (λ n. take n xs) (sym less))

pub seen_first : {X : Type 0} (f : X → List ℕ) (rest : List X) (word : X) (text : List ℕ) (next : Next) (s : Next × Seen)
    (q : Seen) (ask : Option Ask) → 1 ≤ length rest → word ≡ get_or rest 0 word → text ≡ f word → Stands (map f rest) next q ask
    → ((p : Parts) → Sees q p → SeesAfter (Some s) (after_word next text p))
    → Stands (map f (take (length rest - 1) (drop 1 rest))) s.0 s.1 ask
seen_first f rest word text next s q ask some is same stands step =
    let whole : map f rest ≡ text ∷ map f (take (length rest - 1) (drop 1 rest)) =
    ap (map f) (unrolled rest word some is) ∙ ap (λ w. w ∷ map f (take (length rest - 1) (drop 1 rest))) (sym same) in
    seen_word text _ next stands.parts s ask (step stands.parts stands.sees)
    (ap (λ ws. asked ws next stands.parts) (sym whole) ∙ stands.asks)

no_words : {X : Type 0} (f : X → List ℕ) (rest : List X) (next : Next) (q : Seen) (ask : Option Ask) → length rest < 1
    → Stands (map f rest) next q ask
    → Stands [] next q ask
no_words f [] next q ask none stands = stands
no_words f (x ∷ xs) next q ask none stands = absurd (omega arith)

at_last : (next : Next) (p : Parts) (ask : Option Ask) → (next ≡ Word) ⊎ (next ≡ Left) → asked [] next p ≡ ask → ask_from p ≡ ask
at_last next p ask (inl e) asks = rw e at asks
at_last next p ask (inr e) asks = rw e at asks

-- no word is left: the mode decides
pub mode_decides : {X : Type 0} (f : X → List ℕ) (rest : List X) (next : Next) (q : Seen) (ask : Option Ask) (r : Bool) → length rest < 1
    → Stands (map f rest) next q ask → (next ≡ Word) ⊎ (next ≡ Left)
    → ((words : List (List ℕ)) → IsLeft q.left words → r ≡ is_some (mode_of words))
    → r ≡ is_some ask
mode_decides f rest next q ask r none stands at_word is_mode =
    let last = no_words f rest next q ask none stands in
    is_mode last.parts.left last.sees.left ∙ some_ask last.parts ask (at_last next last.parts ask at_word last.asks)
