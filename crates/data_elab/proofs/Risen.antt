-- Entries as values of source variables: a value inside the entries that follow it.
use Rattle.std.proofs.Common.{◌≡◌, ◌<◌, ◌+◌, ℕ, List, [], ◌∷◌, ◌++◌, length, map, refl, sym, ap, ◌∙◌, arith}
use Rattle.std.specs.Prelude.{reverse}
use Rattle.std.specs.List.{AllByRecursion}
use Rattle.el_base.proofs.Lists.{reverse_push}
use Rattle.el_base.proofs.Throughout.{all-weaker, all-reverse, map-same}
use Rattle.core_rules.specs.Term.{Term, Var}
use Rattle.core_rules.specs.Substitution.{shift}
use Rattle.core_rules.specs.Signature.{Entry, Solved}
use Rattle.core_rules.specs.Mapped.{solved_map, telescope_map}
use Rattle.core_rules.proofs.Substitution.Lifted.{shift_twice, shift_none}
use Rattle.term_pool.specs.Pool.{Pool, tree, Extends}
use Rattle.term_pool.specs.Growth.{Extends-length, Extends-tree}
use Rattle.written_rules.specs.Rules.{Values, raised, binding}
use Rattle.elab_machine.specs.Writer.{risen}
use Rattle.elab_machine.specs.Written.{IsSource, source_values}
use Rattle.data_rules.specs.Rules.{inside}
use Rattle.data_elab.specs.Sources.{IsRisen}

pub sources-weaker : (p q : Pool) (vs : List (Solved ℕ)) → Extends p q → AllByRecursion (IsSource (length p.trees)) vs → AllByRecursion (IsSource (length q.trees)) vs
sources-weaker p q vs e a =
    all-weaker (IsSource (length p.trees)) (IsSource (length q.trees)) (λ v h. record { value = omega (arith, Extends-length e, h.value); ty = omega (arith, Extends-length e, h.ty) }) vs a

source-stays : (p q : Pool) → Extends p q → (v : Solved ℕ) → IsSource (length p.trees) v → solved_map (tree q) v ≡ solved_map (tree p) v
source-stays p q e v h =
    let a : tree q v.value ≡ tree p v.value = Extends-tree v.value e h.value in
    let b : tree q v.ty ≡ tree p v.ty = Extends-tree v.ty e h.ty in
    cc (a, b)

sources-stay : (p q : Pool) (vs : List (Solved ℕ)) → Extends p q → AllByRecursion (IsSource (length p.trees)) vs → source_values q vs ≡ source_values p vs
sources-stay p q vs e a = map-same (IsSource (length p.trees)) (solved_map (tree q)) (solved_map (tree p)) (λ v h. source-stays p q e v h) (reverse vs) (all-reverse (IsSource (length p.trees)) vs a)

-- ---- under one entry more

risen-raised : (n : ℕ) (v : Solved Term) → risen n (raised v) ≡ risen (n + 1) v
risen-raised n v =
    let c : 1 + n ≡ n + 1 = omega arith in
    let a : shift (shift v.value 0 1) 0 n ≡ shift v.value 0 (n + 1) = shift_twice v.value 1 n ∙ ap (shift v.value 0) c in
    let b : shift (shift v.ty 0 1) 0 n ≡ shift v.ty 0 (n + 1) = shift_twice v.ty 1 n ∙ ap (shift v.ty 0) c in
    cc (a, b)

all-raised : (n : ℕ) (vs : Values) → map (risen n) (map raised vs) ≡ map (risen (n + 1)) vs
all-raised n [] = refl
all-raised n (v ∷ vs) = cc (risen-raised n v, all-raised n vs)

bound-risen : (n x : ℕ) (a : Term) (vs : Values) → map (risen n) (binding x a vs) ≡ record { name = x; value = Var n; ty = shift a 0 (n + 1) } ∷ map (risen (n + 1)) vs
bound-risen n x a vs =
    let c : 1 + n ≡ n + 1 = omega arith in
    let b : shift (shift a 0 1) 0 n ≡ shift a 0 (n + 1) = shift_twice a 1 n ∙ ap (shift a 0) c in
    let z : 0 + n ≡ n = omega arith in
    let d : shift (Var 0) 0 n ≡ Var n = ap (λ (i : ℕ). Var i) z in
    let first : risen n (record { name = x; value = Var 0; ty = shift a 0 1 }) ≡ record { name = x; value = Var n; ty = shift a 0 (n + 1) } = cc (b, d) in
    cc (first, all-raised n vs)

none-risen : (vs : Values) → map (risen 0) vs ≡ vs
none-risen [] = refl
none-risen (v ∷ vs) =
    let a = shift_none v.value 0 in
    let b = shift_none v.ty 0 in
    let first : risen 0 v ≡ record { name = v.name; value = v.value; ty = v.ty } = cc (a, b) in
    let here : risen 0 v ≡ v = first in
    cc (here, none-risen vs)

-- ---- the values of entries one after the other

-- the values so far, inside all entries that are left, are those of the entries before these
pub record AreSoFar (f : ℕ → Term) (all left : List (Entry ℕ)) (q : Pool) (vs : List (Solved ℕ)) : Type 0 where
  pub before : Values
  pub whole : inside (telescope_map f left) before ≡ inside (telescope_map f all) []
  pub are : source_values q vs ≡ map (risen (length left)) before

pub none-so_far : (f : ℕ → Term) (all : List (Entry ℕ)) (q : Pool) (vs : List (Solved ℕ)) → vs ≡ [] → AreSoFar f all all q vs
none-so_far f all q vs e = record { before = []; whole = refl; are = ap (source_values q) e }

-- p is the pool of the entries, m the one before the value
pub one-so_far : (p m q : Pool) (all left more : List (Entry ℕ)) (e : Entry ℕ) (vs ws : List (Solved ℕ)) (v : Solved ℕ) → left ≡ e ∷ more → Extends p m → Extends m q → e.ty < length p.trees → AllByRecursion (IsSource (length m.trees)) vs
    → IsRisen m q e.name e.ty (length more) v → ws ≡ vs ++ v ∷ [] → AreSoFar (tree p) all left m vs → AreSoFar (tree p) all more q ws
one-so_far p m q all left more e vs ws v first h k l a is pushed s =
    let x : Term = tree p e.ty in
    let same : tree m e.ty ≡ x = Extends-tree e.ty h l in
    let n = length more in
    let split : inside (telescope_map (tree p) left) s.before ≡ inside (telescope_map (tree p) more) (binding e.name x s.before) = ap (λ es. inside (telescope_map (tree p) es) s.before) first in
    let value : solved_map (tree q) v ≡ record { name = e.name; value = Var n; ty = shift x 0 (n + 1) } = is.is ∙ ap (λ (t : Term). record { name = e.name; value = Var n; ty = shift t 0 (n + 1) }) same in
    let l : length left ≡ length (e ∷ more) = ap length first in
    let count : length left ≡ n + 1 = omega (arith, l) in
    let rest : source_values q vs ≡ map (risen (n + 1)) s.before = sources-stay m q vs k a ∙ (s.are ∙ ap (λ i. map (risen i) s.before) count) in
    let joined : source_values q ws ≡ solved_map (tree q) v ∷ source_values q vs = ap (source_values q) pushed ∙ ap (map (solved_map (tree q))) (reverse_push vs v) in
    record {
      before = binding e.name x s.before;
      whole = sym split ∙ s.whole;
      are = joined ∙ (cc (value, rest) ∙ sym (bound-risen n e.name x s.before));
    }

pub all-so_far : (f : ℕ → Term) (all left : List (Entry ℕ)) (q : Pool) (vs : List (Solved ℕ)) → left ≡ [] → AreSoFar f all left q vs → source_values q vs ≡ inside (telescope_map f all) []
all-so_far f all left q vs none s =
    let split : inside (telescope_map f left) s.before ≡ s.before = ap (λ es. inside (telescope_map f es) s.before) none in
    let count : length left ≡ 0 = ap length none in
    s.are ∙ (ap (λ i. map (risen i) s.before) count ∙ (none-risen s.before ∙ (sym split ∙ s.whole)))
