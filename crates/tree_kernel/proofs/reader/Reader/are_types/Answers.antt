use Rattle.std.proofs.Common.{◌≡◌, ◌++◌, ◌∷◌, ◌-◌, [], ℕ, length, take, drop, arith, ap, sym, subst, ◌∙◌}
use Rattle.std.proofs.lemmas.Result.{err_from_is_err_and}
use Rattle.core_rules.specs.InScope.{InScope, any_meta}
use Rattle.core_rules.specs.Signature.{Entry}
use Rattle.core_rules.specs.Mapped.{telescope_map}
use Rattle.conversion.proofs.Slices.{none_within, unrolled}
use Rattle.core_kernel.proofs.Checking.{refused-weaker}
use Rattle.declared_types.proofs.Grown.{entries-weaker}
use Rattle.kernel_rules.specs.Outcome.{Gives, Refuses}
use Rattle.kernel_rules.specs.TermReading.{IsTypeOf}
use Rattle.kernel_rules.specs.FamilyReading.{LevelsOf}
use Rattle.term_pool.specs.Growth.{Extends-trans, Extends-length}
use Rattle.tree_kernel.specs.Jobs.{context_by}
use Rattle.tree_kernel.specs.Reader.{signature_of, term_of, fuel_of, depth_of}
use Rattle.tree_kernel.proofs.Reading.{Grows-refl, ready_kept}
use Rattle.tree_kernel.proofs.Leveling.{levels-first, level-within, level-scope, level-refused, level-next, levels-all, level-here, scope-here}
use Rattle.tree_kernel.proofs.reader.Reader.are_types.Goals as goal

pub loop-left-init : goal.loop-left-init
loop-left-init c =
    let x = c.args.self.now in
    record { grows = Grows-refl x; levels = levels-first x c.args.entries.now _ (c.from_vec.ensures ∙ c.new.ensures.items) c.requires.entries c.requires.scope }

pub is_type-requires-clause-stands : goal.is_type-requires-clause-stands
is_type-requires-clause-stands c = (ready_kept c.requires.ready c.loop-left.invariant.grows).signature

pub is_type-requires-clause-context : goal.is_type-requires-clause-context
is_type-requires-clause-context c =
    let i = c.loop-left.invariant in
    entries-weaker c.args.self.now.pool.now c.loop-left.self.pool.now c.loop-left.context i.grows.extends i.levels.context_below

pub is_type-requires-clause-t : goal.is_type-requires-clause-t
is_type-requires-clause-t c =
    let i = c.loop-left.invariant in
    let left = c.loop-left.left.now in
    let e = c.entry-item.result in
    let w = level-within c.args.self.now c.args.entries.now c.loop-left.context left (take (length left - 1) (drop 1 left)) e i.levels
    (unrolled left e c.in-len1-up.len_at_least c.entry-item.is) in
    let d : c.entry.inside.ty ≡ e.ty = ap (λ (x : Entry ℕ). x.ty) c.entry.view_is in
    omega (arith, w, d, Extends-length i.grows.extends)

pub is_type-requires-clause-scope : goal.is_type-requires-clause-scope
is_type-requires-clause-scope c =
    let i = c.loop-left.invariant in
    let x = c.args.self.now in
    let y = c.loop-left.self in
    let left = c.loop-left.left.now in
    let e = c.entry-item.result in
    let u = unrolled left e c.in-len1-up.len_at_least c.entry-item.is in
    let more = take (length left - 1) (drop 1 left) in
    let w = level-within x c.args.entries.now c.loop-left.context left more e i.levels u in
    let d : c.entry.inside.ty ≡ e.ty = ap (λ (x : Entry ℕ). x.ty) c.entry.view_is in
    subst (λ (t : ℕ). InScope (signature_of y) any_meta (length c.loop-left.context) (term_of y t)) (sym d)
    (scope-here x y c.requires.ready i.grows (length c.loop-left.context) e.ty w (level-scope x c.args.entries.now c.loop-left.context left more e i.levels u))

pub returns-in_err-is_type-clause-is : goal.returns-in_err-is_type-clause-is
returns-in_err-is_type-clause-is c =
    let p = err_from_is_err_and c.from_residual.result c.from_residual.ensures.1 in
    let i = c.loop-left.invariant in
    let x = c.args.self.now in
    let y = c.loop-left.self in
    let q = c.is_type.new.pool in
    let ctx = c.loop-left.context in
    let left = c.loop-left.left.now in
    let e = c.entry-item.result in
    let f = c.in_err-is_type.field-0.0 in
    let u = unrolled left e c.in-len1-up.len_at_least c.entry-item.is in
    let more = take (length left - 1) (drop 1 left) in
    let w = level-within x c.args.entries.now ctx left more e i.levels u in
    let d : c.entry.inside.ty ≡ e.ty = ap (λ (x : Entry ℕ). x.ty) c.entry.view_is in
    rw (p.1, p.2) (refused-weaker q (λ r. IsTypeOf (signature_of y) (fuel_of x) (depth_of x) (context_by (term_of y) ctx) (term_of y c.entry.inside.ty)
    (Refuses r))
    (λ r. LevelsOf (signature_of x) (fuel_of x) (depth_of x) [] (telescope_map (term_of x) c.args.entries.now) (Refuses r))
    (λ r h. level-refused x c.args.entries.now ctx left more e i.levels u r
    (level-here x y c.requires.ready i.grows ctx e.ty i.levels.context_below w (Refuses r)
    (subst (λ (t : ℕ). IsTypeOf (signature_of y) (fuel_of x) (depth_of x) (context_by (term_of y) ctx) (term_of y t) (Refuses r)) d h))) f
    c.in_err-is_type.ensures.answer)

pub loop-left-preserved : goal.loop-left-preserved
loop-left-preserved c =
    let i = c.loop-left.invariant in
    let x = c.args.self.now in
    let y = c.loop-left.self in
    let ctx = c.loop-left.context in
    let left = c.loop-left.left.now in
    let e = c.entry-item.result in
    let n = c.in_ok-is_type.field-0 in
    let u = unrolled left e c.in-len1-up.len_at_least c.entry-item.is in
    let more = take (length left - 1) (drop 1 left) in
    let w = level-within x c.args.entries.now ctx left more e i.levels u in
    let d : c.entry.inside.ty ≡ e.ty = ap (λ (x : Entry ℕ). x.ty) c.entry.view_is in
    let h = level-here x y c.requires.ready i.grows ctx e.ty i.levels.context_below w (Gives n)
    (subst (λ (t : ℕ). IsTypeOf (signature_of y) (fuel_of x) (depth_of x) (context_by (term_of y) ctx) (term_of y t) (Gives n)) d
    c.in_ok-is_type.ensures.answer) in
    record {
      grows = record {
        same_reference = i.grows.same_reference;
        extends = Extends-trans i.grows.extends c.in_ok-is_type.ensures.extends;
        signature =
            i.grows.signature;
        limits = i.grows.limits;
      };
      levels = level-next x c.args.entries.now ctx left more e i.levels u n c.in_ok-context.context h
          (c.in_ok-context.ensures ∙ ap (λ (v : Entry ℕ). ctx ++ v ∷ []) c.entry.view_is);
    }

pub returns-clause-is : goal.returns-clause-is
returns-clause-is c =
    levels-all c.args.self.now c.args.entries.now c.loop-left.context c.loop-left.left.now c.loop-left.invariant.levels
    (none_within c.loop-left.left.now c.in_default.len_below)
