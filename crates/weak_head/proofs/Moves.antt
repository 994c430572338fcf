-- One move, on what the code has: of a term, of a call at a node, and back at a split.
use Rattle.std.specs.Prelude.{◌≡◌, ℕ, zero, suc, ◌+◌, ◌<◌, true, false, cond, List, [], ◌∷◌, ◌++◌, length, reverse, is_some, take, drop, slice_get, Option, Some, None, option_map, option_and_then, refl}
use Rattle.std.proofs.Common.{arith, sym, ap, ap₂, ◌∙◌}
use Rattle.std.proofs.lemmas.List.{append_assoc, append-nil, length-take, length-map, length-reverse}
use Rattle.std.proofs.lemmas.Option.{slice_get_within}
use Rattle.core_rules.specs.declared.Flag.{Flag}
use Rattle.core_rules.specs.Term.{Term, Terms, Var, Sort, Pi, Lam, App, Def, Fam, Con, Proj, Meta}
use Rattle.core_rules.specs.Substitution.{subst as subst_term}
use Rattle.core_rules.specs.Signature.{Tree, Branch, ConBranches, Signature, tree_of, con_branch}
use Rattle.core_rules.specs.Elimination.{Elim, Arg, Field, elims}
use Rattle.core_rules.specs.Run.{ConApp, con_app, takes, full_con}
use Rattle.core_rules.specs.Heads.{Solutions, Form, Blocked, Taken, taken, argument_of, choice, branch_at, enter}
use Rattle.core_rules.specs.Bounded.{same_flag}
use Rattle.core_rules.specs.BoundedLaws.{Ends, Becomes, at_constructor, at_function, at_metavariable}
use Rattle.core_rules.specs.Mapped.{con_branches_map}
use Rattle.core_rules.proofs.Heads.Mapped.{goes_map, con_branch-map}
use Rattle.term_pool.specs.Pool.{node_tree}
use Rattle.term_pool.specs.declared.node.Node.{Node}
use Rattle.term_pool.specs.declared.node.Node.TheVariants as N
use Rattle.weak_head.specs.declared.elim.Elim as E
use Rattle.weak_head.specs.declared.state.Applied as A
use Rattle.weak_head.specs.Elims.{elim_in, spine_in, AreArgs, arg_of, args_of, IsFieldAt, IsFirstField}
use Rattle.weak_head.specs.States.{answer_in}
use Rattle.weak_head.specs.Pending.{AtTerm, AtAnswer, AtStep, Frame, Run, On, by_next, by_choice, move, IsBare}

-- ---- the projection of a constructor

pub taken_none : (g : Signature Term) (k : ℕ) (us : List Term) (es : List Elim) → AreArgs es → taken g k us es ≡ None
taken_none g k us [] h = refl
taken_none g k us (Arg b u ∷ es) h = taken_none g k (us ++ u ∷ []) es h.1
taken_none g k us (Field f ∷ es) h = absurd h.0

abbrev pub taking : List Elim → ℕ → Option Term → Option Taken
taking es n o = option_map (λ u. record { value = u; rest = drop (n + 1) es }) o

pub taken_at : (g : Signature Term) (k : ℕ) (us : List Term) (es : List Elim) (n f : ℕ) → IsFieldAt es n f → taken g k us es ≡ taking es n (argument_of g k (us ++ args_of (take n es)) f)
taken_at g k us [] n f h = let e = h.is in absurd cc
taken_at g k us (Arg b u ∷ es) zero f h = let e = h.is in absurd cc
taken_at g k us (Arg b u ∷ es) (suc n) f h =
    let i : suc n + 1 ≡ suc (n + 1) = omega arith in
    taken_at g k (us ++ u ∷ []) es n f (record { is = h.is; before = h.before.1 })
    ∙ ap (λ l. taking es n (argument_of g k l f)) (append_assoc us (u ∷ []) (args_of (take n es)))
    ∙ ap (λ j. option_map (λ v. record { value = v; rest = drop j (Arg b u ∷ es) }) (argument_of g k (us ++ (u ∷ args_of (take n es))) f)) (sym i)
taken_at g k us (Field e ∷ es) zero f h =
    let i : e ≡ f = let x = h.is in cc in
    ap₂ (λ l x. option_map (λ u. record { value = u; rest = es }) (argument_of g k l x)) (sym (append-nil us)) i
taken_at g k us (Field e ∷ es) (suc n) f h = absurd h.before.0

length_args : (es : List Elim) → AreArgs es → length (args_of es) ≡ length es
length_args [] h = refl
length_args (Arg b u ∷ es) h = ap suc (length_args es h.1)
length_args (Field f ∷ es) h = absurd h.0

pub length_before : (es : List Elim) (n f : ℕ) → IsFieldAt es n f → length (args_of (take n es)) ≡ n
length_before es n f h =
    let l = slice_get_within es n (Field f) h.is in
    length_args (take n es) h.before ∙ (let x = length-take n es in omega (arith, l, x))

pub length_all : (es : List Elim) → AreArgs es → length (args_of es) ≡ length es
length_all es h = length_args es h

pub args_place : (es : List Elim) (n i : ℕ) → AreArgs (take n es) → i < n → slice_get (args_of (take n es)) i ≡ option_and_then arg_of (slice_get es i)
args_place [] zero i h l = absurd (omega (arith, l))
args_place [] (suc n) i h l = refl
args_place (e ∷ es) zero i h l = absurd (omega (arith, l))
args_place (Arg b u ∷ es) (suc n) zero h l = refl
args_place (Arg b u ∷ es) (suc n) (suc i) h l = args_place es n i h.1 (omega (arith, l))
args_place (Field f ∷ es) (suc n) i h l = absurd h.0

-- ---- a term

module _ (g : Signature Term) (s : Solutions) (fs : List Frame) where
  pub term_as : {h t : Term} {es ds : List Elim} {r : Run} → h ≡ t → es ≡ ds → r ≡ move g s (AtTerm t ds) fs → r ≡ move g s (AtTerm h es) fs
  term_as {h} {t} {es} {ds} {r} e f x = x ∙ ap₂ (λ t es. move g s (AtTerm t es) fs) (sym e) (sym f)

  pub lambda_step : (b c : Flag) (x : ℕ) (a t u : Term) (ds : List Elim) → same_flag b c ≡ true → On (AtStep (subst_term t 0 u) ds) fs ≡ move g s (AtTerm (Lam b x a t) (Arg c u ∷ ds)) fs
  lambda_step b c x a t u ds f =
      ap (λ o. by_next (Lam b x a t) (Arg c u ∷ ds) fs (cond o (Becomes 1 (subst_term t 0 u) ds) (Ends (Form (Lam b x a t) (Arg c u ∷ ds))))) (sym f)

  pub lambda_stays : (b c : Flag) (x : ℕ) (a t u : Term) (ds : List Elim) → same_flag b c ≡ false → On (AtAnswer (Form (Lam b x a t) (Arg c u ∷ ds))) fs ≡ move g s (AtTerm (Lam b x a t) (Arg c u ∷ ds)) fs
  lambda_stays b c x a t u ds n =
      ap (λ o. by_next (Lam b x a t) (Arg c u ∷ ds) fs (cond o (Becomes 1 (subst_term t 0 u) ds) (Ends (Form (Lam b x a t) (Arg c u ∷ ds))))) (sym n)

  pub con_as : (k : ℕ) (ps : Terms) (es : List Elim) (o : Option Taken) → taken g k [] es ≡ o → by_next (Con k ps) es fs (at_constructor (Con k ps) es o) ≡ move g s (AtTerm (Con k ps) es) fs
  con_as k ps es o e = ap (λ o. by_next (Con k ps) es fs (at_constructor (Con k ps) es o)) (sym e)

  pub def_as : (f : ℕ) (es : List Elim) (o : Option (Tree Term)) → tree_of g f ≡ o → by_next (Def f) es fs (at_function (Def f) es o) ≡ move g s (AtTerm (Def f) es) fs
  def_as f es o e = ap (λ o. by_next (Def f) es fs (at_function (Def f) es o)) (sym e)

  pub meta_as : (m : ℕ) (ts : Terms) (es : List Elim) → s m ≡ None → On (AtAnswer (Blocked m (Meta m ts) es)) fs ≡ move g s (AtTerm (Meta m ts) es) fs
  meta_as m ts es e = ap (λ o. by_next (Meta m ts) es fs (at_metavariable m ts es o)) (sym e)

-- ---- a constructor with all its arguments

con_app-args : (t : Term) (es : List Elim) (us : List Term) → AreArgs es → con_app (elims t es) us ≡ con_app t (args_of es ++ us)
con_app-args t [] us h = refl
con_app-args t (Arg b u ∷ es) us h = con_app-args (App b t u) es us h.1
con_app-args t (Field f ∷ es) us h = absurd h.0

con_app-none : (t : Term) → ((us : List Term) → con_app t us ≡ None) → (es : List Elim) (us : List Term) → con_app (elims t es) us ≡ None
con_app-none t h [] us = h us
con_app-none t h (Arg b u ∷ es) us = con_app-none (App b t u) (λ vs. h (u ∷ vs)) es us
con_app-none t h (Field f ∷ es) us = con_app-none (Proj f t) (λ vs. refl) es us

con_app-field : (t : Term) (es : List Elim) (n f : ℕ) (us : List Term) → IsFieldAt es n f → con_app (elims t es) us ≡ None
con_app-field t [] n f us h = let e = h.is in absurd cc
con_app-field t (Arg b u ∷ es) zero f us h = let e = h.is in absurd cc
con_app-field t (Arg b u ∷ es) (suc n) f us h = con_app-field (App b t u) es n f us (record { is = h.is; before = h.before.1 })
con_app-field t (Field e ∷ es) n f us h = con_app-none (Proj e t) (λ vs. refl) es us

module _ (g : Signature Term) where
  full_by : (t : Term) (o : Option ConApp) → con_app t [] ≡ o → full_con g t ≡ option_and_then (λ s. cond (takes g s.con (length s.args)) (Some s) None) o
  full_by t o e = ap (option_and_then (λ s. cond (takes g s.con (length s.args)) (Some s) None)) e

  abbrev con_at : ℕ → Terms → List Elim → ConApp
  con_at k ps es = record { con = k; params = ps; args = args_of es }

  app_of : (k : ℕ) (ps : Terms) (es : List Elim) → AreArgs es → con_app (elims (Con k ps) es) [] ≡ Some (con_at k ps es)
  app_of k ps es h = con_app-args (Con k ps) es [] h ∙ ap (λ l. con_app (Con k ps) l) (append-nil (args_of es))

  full_yes : (k : ℕ) (ps : Terms) (es : List Elim) → AreArgs es → true ≡ takes g k (length es) → full_con g (elims (Con k ps) es) ≡ Some (con_at k ps es)
  full_yes k ps es h t =
      let e : takes g k (length (args_of es)) ≡ true = ap (takes g k) (length_args es h) ∙ sym t in
      full_by (elims (Con k ps) es) (Some (con_at k ps es)) (app_of k ps es h) ∙ ap (λ b. cond b (Some (con_at k ps es)) None) e

  full_no : (k : ℕ) (ps : Terms) (es : List Elim) → AreArgs es → false ≡ takes g k (length es) → full_con g (elims (Con k ps) es) ≡ None
  full_no k ps es h t =
      let e : takes g k (length (args_of es)) ≡ false = ap (takes g k) (length_args es h) ∙ sym t in
      full_by (elims (Con k ps) es) (Some (con_at k ps es)) (app_of k ps es h) ∙ ap (λ b. cond b (Some (con_at k ps es)) None) e

  full_field : (h : Term) (es : List Elim) (n f : ℕ) → IsFieldAt es n f → full_con g (elims h es) ≡ None
  full_field h es n f x = full_by (elims h es) None (con_app-field h es n f [] x)

  no_con_app : (h : Term) → IsBare h → ((k : ℕ) (ps : Terms) → h ≡ Con k ps → ⊥) → (us : List Term) → con_app h us ≡ None
  no_con_app (Con k ps) p n us = absurd (n k ps refl)
  no_con_app (App b t u) p n us = absurd p
  no_con_app (Var i) p n us = refl
  no_con_app (Sort l) p n us = refl
  no_con_app (Pi b x a t) p n us = refl
  no_con_app (Lam b x a t) p n us = refl
  no_con_app (Def f) p n us = refl
  no_con_app (Fam d) p n us = refl
  no_con_app (Proj f t) p n us = refl
  no_con_app (Meta m ts) p n us = refl

  full_other : (h : Term) (es : List Elim) → IsBare h → ((k : ℕ) (ps : Terms) → h ≡ Con k ps → ⊥) → full_con g (elims h es) ≡ None
  full_other h es p n = full_by (elims h es) None (con_app-none h (no_con_app h p n) es [])

  -- ---- back at a split

  module _ (s : Solutions) (f : Frame) (fs : List Frame) where
    pub back_waits : (m : ℕ) (h : Term) (es : List Elim) → On (AtAnswer (Blocked m f.head f.all)) fs ≡ move g s (AtAnswer (Blocked m h es)) (f ∷ fs)
    back_waits m h es = refl

    back_as : (h : Term) (es : List Elim) (o : Option ConApp) → full_con g (elims h es) ≡ o → by_choice f fs (branch_at f.branches o) ≡ move g s (AtAnswer (Form h es)) (f ∷ fs)
    back_as h es o e = ap (λ o. by_choice f fs (branch_at f.branches o)) (sym e)

    pub back_other : (h : Term) (es : List Elim) → IsBare h → ((k : ℕ) (ps : Terms) → h ≡ Con k ps → ⊥) → On (AtAnswer (Form f.head f.all)) fs ≡ move g s (AtAnswer (Form h es)) (f ∷ fs)
    back_other h es p n = back_as h es None (full_other h es p n)

    pub back_field : (h : Term) (es : List Elim) (n k : ℕ) → IsFieldAt es n k → On (AtAnswer (Form f.head f.all)) fs ≡ move g s (AtAnswer (Form h es)) (f ∷ fs)
    back_field h es n k x = back_as h es None (full_field h es n k x)

    pub back_short : (h : Term) (k : ℕ) (ps : Terms) (es : List Elim) → h ≡ Con k ps → AreArgs es → false ≡ takes g k (length es) → On (AtAnswer (Form f.head f.all)) fs ≡ move g s (AtAnswer (Form h es)) (f ∷ fs)
    back_short h k ps es e a t = back_as h es None (ap (λ h. full_con g (elims h es)) e ∙ full_no k ps es a t)

    pub back_by : (h : Term) (k : ℕ) (ps : Terms) (es : List Elim) (o : Option (Branch Term × Tree Term)) → h ≡ Con k ps → AreArgs es → true ≡ takes g k (length es) → con_branch f.branches k ≡ o
        → by_choice f fs (enter (args_of es) o) ≡ move g s (AtAnswer (Form h es)) (f ∷ fs)
    back_by h k ps es o e a t b =
        ap (λ o. by_choice f fs (enter (args_of es) o)) (sym b)
        ∙ back_as h es (Some (con_at k ps es)) (ap (λ h. full_con g (elims h es)) e ∙ full_yes k ps es a t)

-- ---- what the code knows of an answer

pub none_from : {X : Type 0} (o : Option X) → is_some o ≡ false → o ≡ None
none_from None e = refl
none_from (Some x) e = absurd cc

pub all_args : (es : List Elim) (o : Option (ℕ × ℕ)) → is_some o ≡ false → IsFirstField es o → AreArgs es
all_args es None e h = h
all_args es (Some r) e h = absurd cc

pub some_field : (es : List Elim) (o : Option (ℕ × ℕ)) → is_some o ≡ true → IsFirstField es o → (n : ℕ) × (k : ℕ) × IsFieldAt es n k
some_field es None e h = absurd cc
some_field es (Some r) e h = (r.0, r.1, h)

pub no_con_node : (f : ℕ → Term) (n : Node) → ((k a : ℕ) → n ≡ N.Con k a → ⊥) → (k : ℕ) (ps : Terms) → node_tree f n ≡ Con k ps → ⊥
no_con_node f (N.Con i a) h k ps e = h i a refl
no_con_node f (N.Var i) h k ps e = absurd cc
no_con_node f (N.Sort i) h k ps e = absurd cc
no_con_node f (N.Pi b x s t) h k ps e = absurd cc
no_con_node f (N.Lam b x s t) h k ps e = absurd cc
no_con_node f (N.App b t u) h k ps e = absurd cc
no_con_node f (N.Def i) h k ps e = absurd cc
no_con_node f (N.Fam i) h k ps e = absurd cc
no_con_node f (N.Proj i t) h k ps e = absurd cc
no_con_node f (N.Meta m a) h k ps e = absurd cc

pub length_spine : (f : ℕ → Term) (xs : List E.Elim) → length (spine_in f xs) ≡ length xs
length_spine f xs = length-map (reverse xs) (elim_in f) ∙ length-reverse xs

-- as an answer without a metavariable
pub answer_as : (g : Signature Term) (f : ℕ → Term) (m : Option ℕ) (a : A.Applied) (x : Frame) (fs : List Frame) {r : Run} → m ≡ None
    → r ≡ by_choice x fs (choice g x.branches (Form (f a.head) (spine_in f a.spine.items))) → r ≡ by_choice x fs (choice g x.branches (answer_in f m a))
answer_as g f m a x fs e i = i ∙ ap (λ m. by_choice x fs (choice g x.branches (answer_in f m a))) (sym e)

pub branch_map_at : (f : ℕ → Term) (bs : ConBranches ℕ) (k : ℕ) (o : Option (Branch ℕ × Tree ℕ)) → con_branch bs k ≡ o → con_branch (con_branches_map f bs) k ≡ goes_map f o
branch_map_at f bs k o e = con_branch-map f bs k ∙ ap (goes_map f) e
