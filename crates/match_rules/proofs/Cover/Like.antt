-- Open terms that stand for others: the variables for their values, and constructors for the parts that come to them.
use Rattle.std.specs.Prelude.{◌≡◌, ℕ, ◌⊎◌, ◌+◌, ◌-◌, ◌<◌, ◌≤◌, true, false, ltb, eqb, cond, List, [], ◌∷◌, ◌++◌, length, map, take, drop, None, refl, zero, suc}
use Rattle.std.proofs.Common.{ap, sym, ◌∙◌, subst as transport, arith, add-zero, ⊎_elim}
use Rattle.std.proofs.lemmas.Grind.{common_steps}
use mathlib.Core.List.{reverse_aux}
use Rattle.core_rules.specs.declared.Flag.{Flag}
use Rattle.core_rules.specs.Term.{Term, Terms, Var, Sort, Pi, Lam, App, Def, Fam, Con, Proj, Meta, End, And}
use Rattle.core_rules.specs.Substitution.{over, over_all, shift, shift_var, subst, subst_var, env_var, value_at, under}
use Rattle.core_rules.specs.Signature.{Signature, Branch, fields_of}
use Rattle.core_rules.specs.Elimination.{Elim, Arg, Field, elims, args, projections, elims_over}
use Rattle.core_rules.specs.Run.{spread, kept}
use Rattle.core_rules.specs.Conversion as C
use Rattle.core_rules.specs.Conversion.{Conv, ConvAll, IsArgument, IsEtaCon}
use Rattle.core_rules.specs.Laws.{IsLifted}
use Rattle.match_rules.specs.Matching.{eta_family}
use Rattle.core_rules.proofs.Substitution.Traversal.{over_id}
use Rattle.core_rules.proofs.Substitution.Lifted.{shift_variable, shift_at, subst_shifted_under}
use Rattle.core_rules.proofs.Substitution.Changes.{shift_lifted, subst_lifted}
use Rattle.core_rules.proofs.Spines.{over-elims, args-over, projections-over}
use Rattle.core_rules.proofs.Conversion.Changed.{conv-elims, conv_by, over-argument}
use Rattle.core_rules.proofs.Heads.Fit.{HasFitTrees}
use Rattle.core_rules.proofs.Heads.Gather as E
use Rattle.core_rules.proofs.Heads.Gather.{ConvEach, ConvElims, conv-elims_all}
use Rattle.core_rules.proofs.Heads.Sound.{heads_sound, elims_args}
use Rattle.match_rules.proofs.Cover.Comes.{Comes, to_head, comes-over}
use Rattle.match_rules.proofs.Cover.Named as N
use Rattle.match_rules.proofs.Cover.Named.{Named, NamedAll, NamedElims, NamedEach, named-refl, named-sym, named-trans, named_eq, named_conv, named_over, comes_named}

mutual
  -- under d binders t stands for v, where r has the values of t's other variables
  pub data Like (g : Signature Term) (r : List Term) : ℕ → Term → Term → Type 0 where
    var : {d i : ℕ} {v : Term} → Named v (env_var r d i) → Like g r d (Var i) v
    sort : {d n : ℕ} → Like g r d (Sort n) (Sort n)
    pi : {d x y : ℕ} {b : Flag} {a a' t t' : Term} → Like g r d a a' → Like g r (d + 1) t t' → Like g r d (Pi b x a t) (Pi b y a' t')
    lam : {d x y : ℕ} {b : Flag} {a a' t t' : Term} → Like g r d a a' → Like g r (d + 1) t t' → Like g r d (Lam b x a t) (Lam b y a' t')
    app : {d : ℕ} {b : Flag} {t t' u u' : Term} → Like g r d t t' → Like g r d u u' → Like g r d (App b t u) (App b t' u')
    def : {d f : ℕ} → Like g r d (Def f) (Def f)
    fam : {d f : ℕ} → Like g r d (Fam f) (Fam f)
    con : {d k : ℕ} {ps qs : Terms} → Like g r d (Con k ps) (Con k qs)
    proj : {d f : ℕ} {t t' : Term} → Like g r d t t' → Like g r d (Proj f t) (Proj f t')
    meta : {d m : ℕ} {ts us : Terms} → LikeAll g r d ts us → Like g r d (Meta m ts) (Meta m us)
    -- the constructor that v comes to
    to_con : {d k n : ℕ} {t v : Term} {ds es : List Elim} (ps : Terms) → eta_family g k ≡ None → Comes g v [] k es n → LikeElims g r d ds es → t ≡ elims (Con k ps) ds → Like g r d t v
    -- the constructor of a record that has eta
    to_record : {d k e : ℕ} {t v : Term} {ws : List Term} (ps : Terms) (is : IsEtaCon g k e) → length ws ≡ length is.con.args → LikeEach g r d ws (projections g e v) → t ≡ elims (Con k ps) (args is.con.args ws) → Like g r d t v
    -- the argument that v takes of a constructor
    to_argument : {d f : ℕ} {t v u w : Term} (fs : List Elim) → IsArgument g f w u → Named v (elims (Proj f w) fs) → Like g r d t (elims u fs) → Like g r d t v

  pub data LikeAll (g : Signature Term) (r : List Term) : ℕ → Terms → Terms → Type 0 where
    none : {d : ℕ} → LikeAll g r d End End
    more : {d : ℕ} {t u : Term} {ts us : Terms} → Like g r d t u → LikeAll g r d ts us → LikeAll g r d (And t ts) (And u us)

  pub data LikeElims (g : Signature Term) (r : List Term) : ℕ → List Elim → List Elim → Type 0 where
    ends : {d : ℕ} → LikeElims g r d [] []
    argument : {d : ℕ} {b : Flag} {t u : Term} {ds es : List Elim} → Like g r d t u → LikeElims g r d ds es → LikeElims g r d (Arg b t ∷ ds) (Arg b u ∷ es)
    projection : {d f : ℕ} {ds es : List Elim} → LikeElims g r d ds es → LikeElims g r d (Field f ∷ ds) (Field f ∷ es)

  pub data LikeEach (g : Signature Term) (r : List Term) : ℕ → List Term → List Term → Type 0 where
    nil : {d : ℕ} → LikeEach g r d [] []
    one : {d : ℕ} {t u : Term} {ts us : List Term} → Like g r d t u → LikeEach g r d ts us → LikeEach g r d (t ∷ ts) (u ∷ us)

pub env_low : (r : List Term) (d i : ℕ) → i < d → env_var r d i ≡ Var i
env_low r d i h = let a : ltb i d ≡ true = grind (arith, common_steps) in ap (λ b. cond b (Var i) (shift (value_at r (i - d)) 0 d)) a

pub env_high : (r : List Term) (d i : ℕ) → d ≤ i → env_var r d i ≡ shift (value_at r (i - d)) 0 d
env_high r d i h = let a : ltb i d ≡ false = grind (arith, common_steps) in ap (λ b. cond b (Var i) (shift (value_at r (i - d)) 0 d)) a

low_or_high : (i d : ℕ) → (i < d) ⊎ (d ≤ i)
low_or_high i d = grind arith

shift_low : (k d i : ℕ) → i < d → shift_var 0 k d i ≡ Var i
shift_low k d i h = let a : ltb i (0 + d) ≡ true = grind (arith, common_steps) in ap (λ b. Var (cond b i (i + k))) a

shift_high : (k d i : ℕ) → d ≤ i → shift_var 0 k d i ≡ Var (i + k)
shift_high k d i h = let a : ltb i (0 + d) ≡ false = grind (arith, common_steps) in ap (λ b. Var (cond b i (i + k))) a

module _ (g : Signature Term) where
  module _ (trees : HasFitTrees g) (r : List Term) where
    mutual
      pub like_conv : {d : ℕ} {t v : Term} → Like g r d t v → Conv g v (over (env_var r) d t)
      like_conv (var e) = named_conv g e
      like_conv sort = C.same
      like_conv (pi h k) = C.pi (like_conv h) (like_conv k)
      like_conv (lam h k) = C.lam (like_conv k)
      like_conv (app h k) = C.app (like_conv h) (like_conv k)
      like_conv def = C.same
      like_conv fam = C.same
      like_conv con = C.con
      like_conv (proj h) = C.proj (like_conv h)
      like_conv (meta h) = C.meta (like_conv_all h)
      like_conv {d = d} (to_con {k = k} {ds = ds} ps n c l e) =
          let h = to_head g c in
          C.then (heads_sound g trees h.heads) (C.then (conv-elims_all C.con (like_conv_elims l)) (conv_by (sym (ap (over (env_var r) d) e ∙ over-elims (env_var r) d (Con k ps) ds))))
      like_conv {d = d} (to_record {k = k} {e = f} {v = v} {ws = ws} ps is n l e) =
          let es = is.con.args in
          C.then (C.eta_record (over_all (env_var r) d ps) is)
          (C.then (conv-elims_all C.same (elims_args es (projections g f v) (map (over (env_var r) d) ws) (like_conv_each l)))
          (conv_by (sym (ap (over (env_var r) d) e ∙ (over-elims (env_var r) d (Con k ps) (args es ws) ∙ ap (elims (Con k (over_all (env_var r) d ps))) (args-over (env_var r) d es ws))))))
      like_conv (to_argument fs i e l) = C.then (named_conv g e) (C.then (conv-elims fs (C.field i)) (like_conv l))

      like_conv_all : {d : ℕ} {ts us : Terms} → LikeAll g r d ts us → ConvAll g us (over_all (env_var r) d ts)
      like_conv_all none = C.ends
      like_conv_all (more h k) = C.both (like_conv h) (like_conv_all k)

      like_conv_elims : {d : ℕ} {ds es : List Elim} → LikeElims g r d ds es → ConvElims g es (elims_over (env_var r) d ds)
      like_conv_elims ends = E.ends
      like_conv_elims (argument h k) = E.argument (like_conv h) (like_conv_elims k)
      like_conv_elims (projection k) = E.field (like_conv_elims k)

      like_conv_each : {d : ℕ} {ts us : List Term} → LikeEach g r d ts us → ConvEach g us (map (over (env_var r) d) ts)
      like_conv_each nil = E.none
      like_conv_each (one h k) = E.one (like_conv h) (like_conv_each k)

  -- a term stands for itself at the values
  module _ (r : List Term) where
    mutual
      pub like-refl : (d : ℕ) (t : Term) → Like g r d t (over (env_var r) d t)
      like-refl d (Var i) = var (named-refl (env_var r d i))
      like-refl d (Sort n) = sort
      like-refl d (Pi b x a t) = pi (like-refl d a) (like-refl (d + 1) t)
      like-refl d (Lam b x a t) = lam (like-refl d a) (like-refl (d + 1) t)
      like-refl d (App b t u) = app (like-refl d t) (like-refl d u)
      like-refl d (Def f) = def
      like-refl d (Fam f) = fam
      like-refl d (Con k ts) = con
      like-refl d (Proj f t) = proj (like-refl d t)
      like-refl d (Meta m ts) = meta (like_all-refl d ts)

      like_all-refl : (d : ℕ) (ts : Terms) → LikeAll g r d ts (over_all (env_var r) d ts)
      like_all-refl d End = none
      like_all-refl d (And t ts) = more (like-refl d t) (like_all-refl d ts)

    pub each-refl : (ts : List Term) → LikeEach g r 0 ts (map (under r) ts)
    each-refl [] = nil
    each-refl (t ∷ ts) = one (like-refl 0 t) (each-refl ts)

  like_to : {r : List Term} {d : ℕ} {t v w : Term} → v ≡ w → Like g r d t v → Like g r d t w
  like_to {r} {d} {t} e l = transport (Like g r d t) e l

  like_from : {r : List Term} {d : ℕ} {t u v : Term} → t ≡ u → Like g r d t v → Like g r d u v
  like_from {r} {d} {v = v} e l = transport (λ t. Like g r d t v) e l

  -- what stands for a term stands for one that differs in names alone
  mutual
    pub like_named : {r : List Term} {d : ℕ} {t v w : Term} → Named v w → Like g r d t v → Like g r d t w
    like_named n (var e) = var (named-trans (named-sym n) e)
    like_named N.sort sort = sort
    like_named (N.pi n m) (pi h k) = pi (like_named n h) (like_named m k)
    like_named (N.lam n m) (lam h k) = lam (like_named n h) (like_named m k)
    like_named (N.app n m) (app h k) = app (like_named n h) (like_named m k)
    like_named N.def def = def
    like_named N.fam fam = fam
    like_named N.con con = con
    like_named (N.proj n) (proj h) = proj (like_named n h)
    like_named (N.meta n) (meta h) = meta (like_all_named n h)
    like_named n (to_con ps p c l e) = let x = comes_named g c n N.ends in to_con ps p x.comes (like_elims_named x.same l) e
    like_named n (to_record {e = f} ps is len l e) = to_record ps is len (like_each_named (N.each-projections (fields_of g f) n) l) e
    like_named n (to_argument fs i e l) = to_argument fs i (named-trans (named-sym n) e) l

    like_all_named : {r : List Term} {d : ℕ} {ts us vs : Terms} → NamedAll us vs → LikeAll g r d ts us → LikeAll g r d ts vs
    like_all_named N.none none = none
    like_all_named (N.more n m) (more h k) = more (like_named n h) (like_all_named m k)

    pub like_elims_named : {r : List Term} {d : ℕ} {ds es fs : List Elim} → NamedElims es fs → LikeElims g r d ds es → LikeElims g r d ds fs
    like_elims_named N.ends ends = ends
    like_elims_named (N.argument n m) (argument h k) = argument (like_named n h) (like_elims_named m k)
    like_elims_named (N.projection m) (projection k) = projection (like_elims_named m k)

    pub like_each_named : {r : List Term} {d : ℕ} {ts us vs : List Term} → NamedEach us vs → LikeEach g r d ts us → LikeEach g r d ts vs
    like_each_named N.nil nil = nil
    like_each_named (N.one n m) (one h k) = one (like_named n h) (like_each_named m k)

  -- a change of t with a change of v, from a binders on to b binders on
  module _ (r q : List Term) (f h : ℕ → ℕ → Term) (lh : IsLifted h) (a b : ℕ) (at : (d i : ℕ) → Like g q (d + b) (f d i) (over h d (env_var r (d + a) i))) where
    at_var : (d n m i : ℕ) → n ≡ d + a → m ≡ d + b → Like g q m (f d i) (over h d (env_var r n i))
    at_var d n m i e k = transport (λ m. Like g q m (f d i) (over h d (env_var r n i))) (sym k) (transport (λ n. Like g q (d + b) (f d i) (over h d (env_var r n i))) (sym e) (at d i))

    mutual
      pub like-over : (d n m : ℕ) {t v : Term} → n ≡ d + a → m ≡ d + b → Like g r n t v → Like g q m (over f d t) (over h d v)
      like-over d n m e k (var {i = i} p) = like_named (named_over h d (named-sym p)) (at_var d n m i e k)
      like-over d n m e k sort = sort
      like-over d n m e k (pi l s) = pi (like-over d n m e k l) (like-over (d + 1) (n + 1) (m + 1) (omega (arith, e)) (omega (arith, k)) s)
      like-over d n m e k (lam l s) = lam (like-over d n m e k l) (like-over (d + 1) (n + 1) (m + 1) (omega (arith, e)) (omega (arith, k)) s)
      like-over d n m e k (app l s) = app (like-over d n m e k l) (like-over d n m e k s)
      like-over d n m e k def = def
      like-over d n m e k fam = fam
      like-over d n m e k con = con
      like-over d n m e k (proj l) = proj (like-over d n m e k l)
      like-over d n m e k (meta l) = meta (like_all-over d n m e k l)
      like-over d n m e k (to_con {k = j} {ds = ds} ps x c l p) = to_con (over_all f d ps) x (comes-over g h lh d c) (like_elims-over d n m e k l) (ap (over f d) p ∙ over-elims f d (Con j ps) ds)
      like-over d n m e k (to_record {k = j} {e = s} {v = v} {ws = ws} ps is x l p) =
          to_record (over_all f d ps) is (Rattle.std.proofs.lemmas.List.length-map ws (over f d) ∙ x) (transport (LikeEach g q m (map (over f d) ws)) (projections-over h d g s v) (like_each-over d n m e k l))
          (ap (over f d) p ∙ (over-elims f d (Con j ps) (args is.con.args ws) ∙ ap (elims (Con j (over_all f d ps))) (args-over f d is.con.args ws)))
      like-over d n m e k (to_argument {f = s} {u = u} {w = w} fs i p l) =
          to_argument (elims_over h d fs) (over-argument h lh g d s w u i) (named-trans (named_over h d p) (named_eq (over-elims h d (Proj s w) fs))) (like_to (over-elims h d u fs) (like-over d n m e k l))

      like_all-over : (d n m : ℕ) {ts us : Terms} → n ≡ d + a → m ≡ d + b → LikeAll g r n ts us → LikeAll g q m (over_all f d ts) (over_all h d us)
      like_all-over d n m e k none = none
      like_all-over d n m e k (more l s) = more (like-over d n m e k l) (like_all-over d n m e k s)

      like_elims-over : (d n m : ℕ) {ds es : List Elim} → n ≡ d + a → m ≡ d + b → LikeElims g r n ds es → LikeElims g q m (elims_over f d ds) (elims_over h d es)
      like_elims-over d n m e k ends = ends
      like_elims-over d n m e k (argument l s) = argument (like-over d n m e k l) (like_elims-over d n m e k s)
      like_elims-over d n m e k (projection s) = projection (like_elims-over d n m e k s)

      like_each-over : (d n m : ℕ) {ts us : List Term} → n ≡ d + a → m ≡ d + b → LikeEach g r n ts us → LikeEach g q m (map (over f d) ts) (map (over h d) us)
      like_each-over d n m e k nil = nil
      like_each-over d n m e k (one l s) = one (like-over d n m e k l) (like_each-over d n m e k s)

  -- an inner variable stands for itself
  inner_var : (r : List Term) (d i : ℕ) → i < d → Like g r d (Var i) (Var i)
  inner_var r d i h = var (named_eq (sym (env_low r d i h)))

  shift_by : (r : List Term) (k d i : ℕ) → Like g r (d + k) (shift_var 0 k d i) (over (shift_var 0 k) d (env_var r (d + 0) i))
  shift_by r k d i = transport (λ n. Like g r (d + k) (shift_var 0 k d i) (over (shift_var 0 k) d (env_var r n i))) (sym (add-zero d)) (⊎_elim low high (low_or_high i d))
    where
      low : i < d → Like g r (d + k) (shift_var 0 k d i) (over (shift_var 0 k) d (env_var r d i))
      low h = like_from (sym (shift_low k d i h)) (like_to (sym (ap (over (shift_var 0 k) d) (env_low r d i h) ∙ shift_low k d i h)) (inner_var r (d + k) i (omega (arith, h))))

      high : d ≤ i → Like g r (d + k) (shift_var 0 k d i) (over (shift_var 0 k) d (env_var r d i))
      high h =
          let e : i + k - (d + k) ≡ i - d = omega arith in
          like_from (sym (shift_high k d i h)) (var (named_eq (ap (over (shift_var 0 k) d) (env_high r d i h)
          ∙ (shift_at (value_at r (i - d)) d k ∙ (ap (λ j. shift (value_at r j) 0 (d + k)) (sym e) ∙ sym (env_high r (d + k) (i + k) (omega (arith, h))))))))

  pub like-shift : (r : List Term) (k : ℕ) {t v : Term} → Like g r 0 t v → Like g r k (shift t 0 k) (shift v 0 k)
  like-shift r k l = like-over r r (shift_var 0 k) (shift_var 0 k) (shift_lifted 0 k) 0 k (shift_by r k) 0 0 k refl (omega arith) l

  subst_by : (r : List Term) {u v : Term} → Like g r 0 u v → (d i : ℕ) → Like g r (d + 0) (subst_var 0 u d i) (over (subst_var 0 v) d (env_var r (d + 1) i))
  subst_by r {u} {v} l d i = transport (λ n. Like g r n (subst_var 0 u d i) (over (subst_var 0 v) d (env_var r (d + 1) i))) (sym (add-zero d)) (⊎_elim low high (low_or_high i d))
    where
      put_low : (w : Term) → i < d → subst_var 0 w d i ≡ Var i
      put_low w h = let a : ltb i (0 + d) ≡ true = grind (arith, common_steps) in ap (λ b. cond b (Var i) (cond (eqb i (0 + d)) (shift w 0 d) (Var (i - 1)))) a

      put_here : (w : Term) → i ≡ d → subst_var 0 w d i ≡ shift w 0 d
      put_here w h =
          let a : ltb i (0 + d) ≡ false = grind (arith, common_steps) in
          let e : eqb i (0 + d) ≡ true = grind (arith, common_steps) in
          ap (λ b. cond b (Var i) (cond (eqb i (0 + d)) (shift w 0 d) (Var (i - 1)))) a ∙ ap (λ b. cond b (shift w 0 d) (Var (i - 1))) e

      put_high : (w : Term) → d < i → subst_var 0 w d i ≡ Var (i - 1)
      put_high w h =
          let a : ltb i (0 + d) ≡ false = grind (arith, common_steps) in
          let e : eqb i (0 + d) ≡ false = grind (arith, common_steps) in
          ap (λ b. cond b (Var i) (cond (eqb i (0 + d)) (shift w 0 d) (Var (i - 1)))) a ∙ ap (λ b. cond b (shift w 0 d) (Var (i - 1))) e

      low : i < d → Like g r d (subst_var 0 u d i) (over (subst_var 0 v) d (env_var r (d + 1) i))
      low h = like_from (sym (put_low u h)) (like_to (sym (ap (over (subst_var 0 v) d) (env_low r (d + 1) i (omega (arith, h))) ∙ put_low v h)) (inner_var r d i h))

      here : i ≡ d → Like g r d (subst_var 0 u d i) (over (subst_var 0 v) d (env_var r (d + 1) i))
      here h = like_from (sym (put_here u h)) (like_to (sym (ap (over (subst_var 0 v) d) (env_low r (d + 1) i (omega (arith, h))) ∙ put_here v h)) (like-shift r d l))

      above : d < i → Like g r d (subst_var 0 u d i) (over (subst_var 0 v) d (env_var r (d + 1) i))
      above h =
          let e : i - (d + 1) ≡ i - 1 - d = omega arith in
          like_from (sym (put_high u h)) (var (named_eq (ap (over (subst_var 0 v) d) (env_high r (d + 1) i (omega (arith, h)))
          ∙ (subst_shifted_under (value_at r (i - (d + 1))) 0 d d v (omega arith) ∙ (ap (λ j. shift (value_at r j) 0 d) e ∙ sym (env_high r d (i - 1) (omega (arith, h))))))))

      equal_or_above : d ≤ i → (i ≡ d) ⊎ (d < i)
      equal_or_above h = grind (arith, h)

      high : d ≤ i → Like g r d (subst_var 0 u d i) (over (subst_var 0 v) d (env_var r (d + 1) i))
      high h = ⊎_elim here above (equal_or_above h)

  pub like-subst : (r : List Term) {t t' u u' : Term} → Like g r 1 t t' → Like g r 0 u u' → Like g r 0 (subst t 0 u) (subst t' 0 u')
  like-subst r {u = u} {u' = u'} l k = like-over r r (subst_var 0 u) (subst_var 0 u') (subst_lifted 0 u') 1 0 (subst_by r k) 0 1 0 refl refl l

  pub like-value_at : (r : List Term) {s q : List Term} (i : ℕ) → LikeEach g r 0 s q → Like g r 0 (value_at s i) (value_at q i)
  like-value_at r i nil = sort
  like-value_at r zero (one l k) = l
  like-value_at r (suc i) (one l k) = like-value_at r i k

  -- a term at values that stand for others
  module _ (r s q : List Term) (l : LikeEach g r 0 s q) where
    body_var : (d i : ℕ) → Like g r d (env_var s d i) (env_var q d i)
    body_var d i = ⊎_elim low high (low_or_high i d)
      where
        low : i < d → Like g r d (env_var s d i) (env_var q d i)
        low h = like_from (sym (env_low s d i h)) (like_to (sym (env_low q d i h)) (inner_var r d i h))

        high : d ≤ i → Like g r d (env_var s d i) (env_var q d i)
        high h = like_from (sym (env_high s d i h)) (like_to (sym (env_high q d i h)) (like-shift r d (like-value_at r (i - d) l)))

    mutual
      like-body : (d : ℕ) (t : Term) → Like g r d (over (env_var s) d t) (over (env_var q) d t)
      like-body d (Var i) = body_var d i
      like-body d (Sort n) = sort
      like-body d (Pi b x a t) = pi (like-body d a) (like-body (d + 1) t)
      like-body d (Lam b x a t) = lam (like-body d a) (like-body (d + 1) t)
      like-body d (App b t u) = app (like-body d t) (like-body d u)
      like-body d (Def f) = def
      like-body d (Fam f) = fam
      like-body d (Con k ts) = con
      like-body d (Proj f t) = proj (like-body d t)
      like-body d (Meta m ts) = meta (like_all-body d ts)

      like_all-body : (d : ℕ) (ts : Terms) → LikeAll g r d (over_all (env_var s) d ts) (over_all (env_var q) d ts)
      like_all-body d End = none
      like_all-body d (And t ts) = more (like-body d t) (like_all-body d ts)

    pub like-under : (t : Term) → Like g r 0 (under s t) (under q t)
    like-under t = like-body 0 t

  abbrev same_var : ℕ → ℕ → Term
  same_var d i = Var i

  same_lifted : IsLifted same_var
  same_lifted = record { own = λ d. refl; later = λ d i. sym (shift_variable i 1) }

  -- a change of t alone
  like-stays : (r q : List Term) (f : ℕ → ℕ → Term) → ((d i : ℕ) → Like g q d (f d i) (env_var r d i)) → {t v : Term} → Like g r 0 t v → Like g q 0 (over f 0 t) v
  like-stays r q f at {v = v} l = like_to (over_id same_var (λ d i. refl) 0 v) (like-over r q f same_var same_lifted 0 0 changed 0 0 0 refl refl l)
    where
      changed : (d i : ℕ) → Like g q (d + 0) (f d i) (over same_var d (env_var r (d + 0) i))
      changed d i = like_to (sym (over_id same_var (λ d i. refl) d (env_var r (d + 0) i))) (transport (λ n. Like g q n (f d i) (env_var r n i)) (sym (add-zero d)) (at d i))

  -- terms that stand for the values are put for the variables
  pub like-change : (r q s : List Term) → LikeEach g q 0 s r → {t v : Term} → Like g r 0 t v → Like g q 0 (under s t) v
  like-change r q s k l = like-stays r q (env_var s) (λ d i. body_var q s r k d i) l

  -- under a new value
  pub like-raise : (r : List Term) (u : Term) {t v : Term} → Like g r 0 t v → Like g (u ∷ r) 0 (shift t 0 1) v
  like-raise r u l = like-stays r (u ∷ r) (shift_var 0 1) raise_var l
    where
      raise_var : (d i : ℕ) → Like g (u ∷ r) d (shift_var 0 1 d i) (env_var r d i)
      raise_var d i = ⊎_elim low high (low_or_high i d)
        where
          low : i < d → Like g (u ∷ r) d (shift_var 0 1 d i) (env_var r d i)
          low h = like_from (sym (shift_low 1 d i h)) (like_to (sym (env_low r d i h)) (inner_var (u ∷ r) d i h))

          high : d ≤ i → Like g (u ∷ r) d (shift_var 0 1 d i) (env_var r d i)
          high h =
              let e : i + 1 - d ≡ suc (i - d) = omega (arith, h) in
              like_from (sym (shift_high 1 d i h)) (var (named_eq (env_high r d i h ∙ sym (env_high (u ∷ r) d (i + 1) (omega (arith, h)) ∙ ap (λ j. shift (value_at (u ∷ r) j) 0 d) e))))

  module _ (r : List Term) where
    pub each-append : {ts us vs ws : List Term} → LikeEach g r 0 ts us → LikeEach g r 0 vs ws → LikeEach g r 0 (ts ++ vs) (us ++ ws)
    each-append nil k = k
    each-append (one e m) k = one e (each-append m k)

    each-take : {ts us : List Term} (k : ℕ) → LikeEach g r 0 ts us → LikeEach g r 0 (take k ts) (take k us)
    each-take zero m = nil
    each-take (suc k) nil = nil
    each-take (suc k) (one e m) = one e (each-take k m)

    each-drop : {ts us : List Term} (k : ℕ) → LikeEach g r 0 ts us → LikeEach g r 0 (drop k ts) (drop k us)
    each-drop zero m = m
    each-drop (suc k) nil = nil
    each-drop (suc k) (one e m) = each-drop k m

    each-reverse_onto : {ts us vs ws : List Term} → LikeEach g r 0 ts us → LikeEach g r 0 vs ws → LikeEach g r 0 (reverse_aux ts vs) (reverse_aux us ws)
    each-reverse_onto nil k = k
    each-reverse_onto (one e m) k = each-reverse_onto m (one e k)

    pub each-spread : {ts us s q : List Term} (k : ℕ) → LikeEach g r 0 ts us → LikeEach g r 0 s q → LikeEach g r 0 (spread k ts s) (spread k us q)
    each-spread k u m = each-append (each-append (each-take k m) (each-reverse_onto u nil)) (each-drop (k + 1) m)

    each-kept : {s q : List Term} (ks : List ℕ) → LikeEach g r 0 s q → LikeEach g r 0 (map (value_at s) ks) (map (value_at q) ks)
    each-kept [] m = nil
    each-kept (k ∷ ks) m = one (like-value_at r k m) (each-kept ks m)

    pub each-branch : {s q : List Term} (b : Branch Term) → LikeEach g r 0 s q → LikeEach g r 0 (kept b s) (kept b q)
    each-branch b m = each-kept b.keep m

    pub each-projections : {t v : Term} (fs : List ℕ) → Like g r 0 t v → LikeEach g r 0 (map (λ f. Proj f t) fs) (map (λ f. Proj f v) fs)
    each-projections [] l = nil
    each-projections (f ∷ fs) l = one (proj l) (each-projections fs l)

    pub each-length : {ts us : List Term} → LikeEach g r 0 ts us → length ts ≡ length us
    each-length nil = refl
    each-length (one e m) = ap suc (each-length m)

    pub elims-append : {ds es fs hs : List Elim} → LikeElims g r 0 ds es → LikeElims g r 0 fs hs → LikeElims g r 0 (ds ++ fs) (es ++ hs)
    elims-append ends k = k
    elims-append (argument l m) k = argument l (elims-append m k)
    elims-append (projection m) k = projection (elims-append m k)

    pub like-args : (es : List (Rattle.core_rules.specs.Signature.Entry Term)) {ts us : List Term} → LikeEach g r 0 ts us → LikeElims g r 0 (args es ts) (args es us)
    like-args [] l = ends
    like-args (e ∷ es) nil = ends
    like-args (e ∷ es) (one l m) = argument l (like-args es m)
