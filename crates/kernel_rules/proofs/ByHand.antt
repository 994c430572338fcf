-- The plain unifier unifies, and with it addition is accepted.
use Rattle.std.specs.Prelude.{◌≡◌, ℕ, ◌+◌, ◌<◌, List, [], ◌∷◌, length, map, reverse, slice_get, Some, refl, zero, suc, option_map}
use Rattle.std.specs.List.{AllByRecursion}
use Rattle.std.proofs.Common.{ap, sym, ◌∙◌, arith, subst as transport, zero-add, inl}
use Rattle.std.proofs.lemmas.Option.{slice_get-map, slice_get_within}
use Rattle.std.proofs.lemmas.List.{length-map, length-reverse}
use Rattle.core_rules.specs.declared.Flag.TheVariants.{Explicit}
use Rattle.core_rules.specs.Term.{Term, Var, Sort, Pi, Def}
use Rattle.core_rules.specs.Signature.{Signature, Context, onto, Branch, Family, Open, numbers, without_cons}
use Rattle.core_rules.specs.Elimination.{con_type}
use Rattle.core_rules.specs.Typing.{entry, IsCon}
use Rattle.core_rules.specs.InScope.{VarsBelow}
use Rattle.core_rules.specs.Heads as H
use Rattle.core_rules.specs.Heads.{Form, Within}
use Rattle.core_rules.specs.Bounded.{Yes}
use Rattle.core_rules.specs.Unification as U
use Rattle.core_rules.specs.Unification.{Equation, Solution, Joins}
use Rattle.core_rules.specs.TypedTree.{vars, Splitting}
use Rattle.core_rules.specs.Examples.{nat, suc_con, zero_con}
use Rattle.core_rules.specs.Addition.{nat_type, plus_tree, plus_term, suc_term, at_zero, at_suc}
use Rattle.core_rules.proofs.Heads.Same.{nothing_acyclic}
use Rattle.core_rules.proofs.Signature.Places.{length-numbers, numbers_at}
use Rattle.core_rules.proofs.Typing.Scoped.{length-onto}
use Rattle.kernel_rules.specs.Outcome.{Gives, goes_on, stops}
use Rattle.kernel_rules.specs.TermReading.{ShowsForm, ShowsSort, ShowsFunction, Agrees, InferOf, IsTypeOf, CheckOf}
use Rattle.core_rules.specs.Examples.{data_type}
use Rattle.core_rules.specs.Signature.{FamDecl}
use Rattle.kernel_rules.specs.Refusals.{TooBig, BadTree}
use Rattle.core_rules.specs.UnifierAnswers.{Unified, UnifiedBy, NeverUnified, IsUnified, answers}
use Rattle.kernel_rules.specs.FamilyReading.{ConOf}
use Rattle.kernel_rules.specs.TreeReading.{FamilyAt, same, ShowsSplit, BranchOf, TreeOf, split_at}
use Rattle.kernel_rules.specs.Examples.{plain, PlainUnifies, NatAccepted, AdditionAccepted, box_con, BoxTooBig, AbsurdRefused}

-- ---- it unifies

abbrev unified_branch : Branch Term → Unified → Branch Term
unified_branch b (UnifiedBy ss c) = c
unified_branch b v = b

vars_at : (n j k : ℕ) → slice_get (numbers 0 n) j ≡ Some k → slice_get (vars 0 n) k ≡ Some (Var j)
vars_at n j k e =
    let b : j < n = let h = slice_get_within (numbers 0 n) j k e in let m = length-numbers 0 n in omega (arith, h, m) in
    let p : slice_get (numbers 0 n) j ≡ Some j = numbers_at 0 n j b ∙ ap Some (zero-add j) in
    let q : k ≡ j = cc (e, p) in
    rw q (slice_get-map Var (numbers 0 n) j ∙ ap (option_map Var) p)

numbers_below : (m n k : ℕ) → m + n ≡ k → AllByRecursion (λ t. VarsBelow k t) (map Var (numbers m n))
numbers_below m zero k e = tt
numbers_below m (suc n) k e = (omega (arith, e), numbers_below (m + 1) n k (omega (arith, e)))

plain_joins : (c : Context Term) → Joins c [] (onto (reverse c) []) (vars 0 (length c)) (numbers 0 (length c))
plain_joins c =
    let n : length (onto (reverse c) []) ≡ length c = let a = length-onto (reverse c) [] in let b = length-reverse c in omega (arith, a, b) in
    record {
      long = length-map (numbers 0 (length c)) Var ∙ length-numbers 0 (length c);
      scoped = numbers_below 0 (length c) (length (onto (reverse c) [])) (omega (arith, n));
      values = tt;
      as_many = length-numbers 0 (length c) ∙ sym n;
      kept = λ j k e. vars_at (length c) j k e;
    }

unified_one : {ss ds : List Solution} {b c : Branch Term} → UnifiedBy ss b ≡ UnifiedBy ds c → (ss ≡ ds) × (b ≡ c)
unified_one e = (cc e, cc e)

plain_unified : (g : Signature Term) (c : Context Term) (es : List Equation) (ss : List Solution) (b : Branch Term) → UnifiedBy ss b ≡ plain c es → IsUnified g c es ss b
plain_unified g c [] ss b e =
    let h = unified_one e in
    transport (λ ss. IsUnified g c [] ss b) (sym h.0) (transport (IsUnified g c [] []) (sym h.1) (record { solves = record { types = _; steps = U.stop }; joins = plain_joins c }))
plain_unified g c (q ∷ es) ss b e = absurd cc

plain_never : (c : Context Term) (es : List Equation) → NeverUnified ≡ plain c es → ⊥
plain_never c [] e = cc e
plain_never c (q ∷ es) e = cc e

pub plain_unifies : PlainUnifies
plain_unifies = λ g k. record { unified = λ c es ss b e. plain_unified g c es ss b e; never = λ c es e. absurd (plain_never c es e) }

-- ---- what it reads

module _ (g : Signature Term) where
  form_shown_at : (h : Term) → H.IsForm g h [] → ShowsForm g 0 1 h (Gives h)
  form_shown_at h f = (Within (Form h []) 0, (H.form f, omega arith), refl)

abbrev known : Signature Term
known = Family nat ∷ Open 3 (Pi Explicit 0 nat_type (Pi Explicit 0 nat_type nat_type)) ∷ []

sort_shown : (g : Signature Term) (depth n : ℕ) → ShowsSort g 0 depth (Sort n) (Gives n)
sort_shown g depth n = goes_on (Sort n) (Within (Form (Sort n) []) 0, (H.form tt, omega arith), refl) refl

-- over a signature that knows Nat, also without its constructors
nat_typed : (depth : ℕ) (c : Context Term) → IsTypeOf (Family (without_cons nat) ∷ []) 0 depth c nat_type (Gives 0)
nat_typed depth c = goes_on (Sort 0) (without_cons nat, refl, refl) (sort_shown (Family (without_cons nat) ∷ []) depth 0)

pub nat_accepted : NatAccepted
nat_accepted = goes_on [] refl (goes_on [] refl (goes_on tt zero_accepted (goes_on tt suc_accepted refl)))
  where
    zero_accepted : ConOf (Family (without_cons nat) ∷ []) 0 0 0 nat zero_con (Gives tt)
    zero_accepted = goes_on [] refl (goes_on tt refl (goes_on 0 (nat_typed 0 []) refl))

    suc_accepted : ConOf (Family (without_cons nat) ∷ []) 0 0 0 nat suc_con (Gives tt)
    suc_accepted = goes_on (0 ∷ []) (goes_on 0 (nat_typed 0 []) (goes_on [] refl refl)) (goes_on tt refl (goes_on 0 (nat_typed 0 (onto suc_con.args [])) refl))

module _ (g : Signature Term) (is : Rattle.core_rules.specs.Signature.fam_decl g 0 ≡ Some nat) where
  is_type : (c : Context Term) → IsTypeOf g 0 1 c nat_type (Gives 0)
  is_type c = goes_on (Sort 0) (nat, is, refl) (sort_shown g 1 0)

  pi_typed : (c : Context Term) (x : ℕ) (t : Term) → IsTypeOf g 0 1 (entry Explicit x nat_type ∷ c) t (Gives 0) → IsTypeOf g 0 1 c (Pi Explicit x nat_type t) (Gives 0)
  pi_typed c x t h = goes_on (Sort 0) (goes_on 0 (is_type c) (goes_on 0 h refl)) (sort_shown g 1 0)

  agrees : Agrees g 0 1 nat_type nat_type (Gives tt)
  agrees = (Yes, inl (record { acyclic = nothing_acyclic; same = refl }, refl), refl)

  var_checked : (c : Context Term) (i x : ℕ) → slice_get c i ≡ Some (entry Explicit x nat_type) → CheckOf g 0 1 c (Var i) nat_type (Gives tt)
  var_checked c i x e = goes_on nat_type (entry Explicit x nat_type, e, refl) agrees

  shows_pi : (x : ℕ) (t : Term) → ShowsFunction g 0 1 Explicit (Pi Explicit x nat_type t) (Gives (nat_type, t))
  shows_pi x t = goes_on (Pi Explicit x nat_type t) (Within (Form (Pi Explicit x nat_type t) []) 0, (H.form tt, omega arith), refl) refl

abbrev under_both : Context Term
under_both = entry Explicit 0 nat_type ∷ entry Explicit 0 nat_type ∷ []

plus_checked : InferOf known 0 1 under_both (plus_term (Var 1) (Var 0)) (Gives nat_type)
plus_checked =
    goes_on (Pi Explicit 0 nat_type nat_type)
    (goes_on (Pi Explicit 0 nat_type (Pi Explicit 0 nat_type nat_type)) (Pi Explicit 0 nat_type (Pi Explicit 0 nat_type nat_type), refl, refl)
    (goes_on (nat_type, Pi Explicit 0 nat_type nat_type) (shows_pi known refl 0 (Pi Explicit 0 nat_type nat_type)) (goes_on tt (var_checked known refl under_both 1 0 refl) refl)))
    (goes_on (nat_type, nat_type) (shows_pi known refl 0 nat_type) (goes_on tt (var_checked known refl under_both 0 0 refl) refl))

abbrev is_suc : IsCon known 1
is_suc = record { fam = 0; at = 1; decl = nat; con = suc_con; place = refl; is_decl = refl; is_con = refl }

suc_checked : CheckOf known 0 1 under_both (suc_term (plus_term (Var 1) (Var 0))) nat_type (Gives tt)
suc_checked =
    goes_on nat_type
    (goes_on (con_type 0 nat suc_con) (is_suc, goes_on tt refl refl)
    (goes_on (nat_type, nat_type) (shows_pi known refl 3 nat_type) (goes_on tt (goes_on nat_type plus_checked (agrees known refl)) refl)))
    (agrees known refl)

abbrev nat_at : FamilyAt
nat_at = record { fam = 0; decl = nat; params = []; indices = [] }

shows_split : ShowsSplit known 0 1 under_both 1 (Gives nat_at)
shows_split =
    goes_on nat_at (goes_on (entry Explicit 0 nat_type) refl (goes_on (nat_type, []) (Within (Form nat_type []) 0, (H.form tt, omega arith), refl) refl))
    (goes_on tt refl refl)

abbrev plus_split : Splitting
plus_split = split_at under_both 1 nat_at nat_type (plus_term (Var 1) (Var 0))

zero_branch : BranchOf known 0 1 (answers plain) plus_split 0 zero_con at_zero (Gives tt)
zero_branch =
    goes_on (record { context = entry Explicit 0 nat_type ∷ []; values = Var 0 ∷ []; keep = 0 ∷ [] }) (UnifiedBy [] (record { context = entry Explicit 0 nat_type ∷ []; values = Var 0 ∷ []; keep = 0 ∷ [] }), refl, refl)
    (goes_on tt (same (record { context = (refl, refl, tt); values = (refl, tt); keep = refl }) refl)
    (goes_on (0 ∷ []) (goes_on 0 (is_type known refl []) (goes_on [] refl refl)) (goes_on tt refl (goes_on tt (var_checked known refl (entry Explicit 0 nat_type ∷ []) 0 0 refl) refl))))

suc_branch : BranchOf known 0 1 (answers plain) plus_split 1 suc_con at_suc (Gives tt)
suc_branch =
    let b : Branch Term = record { context = entry Explicit 3 nat_type ∷ entry Explicit 0 nat_type ∷ []; values = Var 0 ∷ Var 1 ∷ []; keep = 0 ∷ 1 ∷ [] } in
    goes_on b (UnifiedBy [] b, refl, refl)
    (goes_on tt (same (record { context = (refl, refl, (refl, refl, tt)); values = (refl, (refl, tt)); keep = refl }) refl)
    (goes_on (0 ∷ 0 ∷ []) (goes_on 0 (is_type known refl []) (goes_on (0 ∷ []) (goes_on 0 (is_type known refl (entry Explicit 0 nat_type ∷ [])) (goes_on [] refl refl)) refl))
    (goes_on tt (goes_on tt refl (goes_on tt (var_checked known refl under_both 1 0 refl) refl)) (goes_on tt (var_checked known refl under_both 0 0 refl) refl))))

plus_read : TreeOf known 0 1 (answers plain) [] plus_tree (Pi Explicit 0 nat_type (Pi Explicit 0 nat_type nat_type)) (Def 0) (Gives tt)
plus_read =
    goes_on (Pi Explicit 0 nat_type (Pi Explicit 0 nat_type nat_type)) (form_shown_at known (Pi Explicit 0 nat_type (Pi Explicit 0 nat_type nat_type)) tt)
    (goes_on (record { flag = Explicit; name = 0; dom = nat_type; cod = Pi Explicit 0 nat_type nat_type }) refl
    (goes_on (Pi Explicit 0 nat_type nat_type) (form_shown_at known (Pi Explicit 0 nat_type nat_type) tt)
    (goes_on (record { flag = Explicit; name = 0; dom = nat_type; cod = nat_type }) refl
    (goes_on nat_at shows_split
    (goes_on tt refl (goes_on tt zero_branch (goes_on tt (goes_on tt (var_checked known refl (entry Explicit 0 nat_type ∷ []) 0 0 refl) refl)
    (goes_on tt refl (goes_on tt suc_branch (goes_on tt (goes_on tt suc_checked refl) refl))))))))))

pub addition_accepted : AdditionAccepted
addition_accepted =
    let g : Signature Term = Family nat ∷ [] in
    goes_on 0 (pi_typed g refl [] 0 (Pi Explicit 0 nat_type nat_type) (pi_typed g refl (entry Explicit 0 nat_type ∷ []) 0 nat_type (is_type g refl under_both))) plus_read

-- ---- what it refuses

abbrev box : FamDecl Term
box = data_type 0 [] [] (box_con ∷ [])

pub box_too_big : BoxTooBig
box_too_big = goes_on [] refl (goes_on [] refl (stops TooBig
    (goes_on (1 ∷ []) (goes_on 1 (goes_on (Sort 1) refl (sort_shown (Family (without_cons box) ∷ []) 0 1)) (goes_on [] refl refl))
    (goes_on tt refl (goes_on 0 (goes_on (Sort 0) (without_cons box, refl, refl) (sort_shown (Family (without_cons box) ∷ []) 0 0)) refl))) refl))

abbrev opened : Signature Term
opened = Family nat ∷ Open 3 (Pi Explicit 0 nat_type nat_type) ∷ []

pub absurd_refused : AbsurdRefused
absurd_refused =
    let g : Signature Term = Family nat ∷ [] in
    let one : Context Term = entry Explicit 0 nat_type ∷ [] in
    goes_on 0 (pi_typed g refl [] 0 nat_type (is_type g refl one))
    (goes_on (Pi Explicit 0 nat_type nat_type) (form_shown_at opened (Pi Explicit 0 nat_type nat_type) tt)
    (goes_on (record { flag = Explicit; name = 0; dom = nat_type; cod = nat_type }) refl
    (goes_on nat_at
    (goes_on nat_at (goes_on (entry Explicit 0 nat_type) refl (goes_on (nat_type, []) (Within (Form nat_type []) 0, (H.form tt, omega arith), refl) refl)) (goes_on tt refl refl))
    (stops BadTree (UnifiedBy [] (record { context = []; values = []; keep = [] }), refl, refl) refl))))
