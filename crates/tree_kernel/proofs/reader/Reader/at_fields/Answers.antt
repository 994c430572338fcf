use Rattle.std.proofs.Common.{◌≡◌, ◌<◌, ◌-◌, ◌∙◌, ℕ, List, length, map, reverse, take, drop, ap, sym, subst}
use Rattle.std.specs.List.{AllByRecursion}
use Rattle.std.proofs.lemmas.Bool.{eq-eqb, ne_eqb}
use Rattle.core_rules.specs.Signature.{Entry}
use Rattle.core_rules.specs.Substitution.{under}
use Rattle.conversion.proofs.Slices.{unrolled}
use Rattle.term_pool.specs.Pool.{StandsFor}
use Rattle.tree_kernel.specs.Reader.{term_of}
use Rattle.tree_kernel.proofs.Fielding.{field-other, field-is, field-read}
use Rattle.tree_kernel.proofs.reader.Reader.at_fields.Goals as goal

pub returns-then-number-clause-is : goal.returns-then-number-clause-is
returns-then-number-clause-is c =
    let w = c.args.job in
    let f = c.field-item.result in
    let e = c.entry-item.result in
    let b = c.branch-item.result in
    let fs = w.fields.now in
    let es = w.entries.now in
    let bs = w.branches.now in
    field-other c.args.self.now w c.requires.job f (take (length fs - 1) (drop 1 fs)) e (take (length es - 1) (drop 1 es)) b (take (length bs - 1) (drop 1 bs))
    (unrolled fs f c.in-len1-up-fields.len_at_least c.field-item.is)
    (unrolled es e c.in-len1-up-entries.len_at_least c.entry-item.is) (unrolled bs b c.in-len1-up.len_at_least c.branch-item.is)
    (ne_eqb b.field f (λ e. c.if-number.true (c.number.ensures ∙ (e ∙ sym c.number-2.ensures))))

pub field_at-requires-clause-env : goal.field_at-requires-clause-env
field_at-requires-clause-env c = subst (AllByRecursion (λ i. i < length c.args.self.now.pool.now.trees)) (sym c.as_slice.ensures.value) c.requires.job.0.2

pub returns-clause-is : goal.returns-clause-is
returns-clause-is c =
    let x = c.args.self.now in
    let z = c.field_at.new.self in
    let w = c.args.job in
    let f = c.field-item.result in
    let e = c.entry-item.result in
    let b = c.branch-item.result in
    let fs = w.fields.now in
    let es = w.entries.now in
    let bs = w.branches.now in
    let ty = c.in_ok-ty.ty in
    let made = c.in_ok-ty.projection in
    let d : c.entry.inside.ty ≡ e.ty = ap (λ (x : Entry ℕ). x.ty) c.entry.view_is in
    let t : StandsFor z.pool.now ty (under (map (term_of x) (reverse w.env.items)) (term_of x e.ty)) =
    subst (λ (i : ℕ). StandsFor z.pool.now ty (under (map (term_of x) (reverse w.env.items)) (term_of x i))) d
    (subst (λ (us : List ℕ). StandsFor z.pool.now ty (under (map (term_of x) (reverse us)) (term_of x c.entry.inside.ty))) c.as_slice.ensures.value
    c.in_ok-ty.ensures.ty) in
    let u = unrolled fs f c.in-len1-up-fields.len_at_least c.field-item.is in
    let v = unrolled es e c.in-len1-up-entries.len_at_least c.entry-item.is in
    let k = unrolled bs b c.in-len1-up.len_at_least c.branch-item.is in (
      field-is x w c.requires.job f (take (length fs - 1) (drop 1 fs)) e (take (length es - 1) (drop 1 es)) b (take (length bs - 1) (drop 1 bs)) u v k z
          c.requires.ready c.in_ok-ty.ensures.grows ty made t c.in_ok-ty.ensures.projection c.push.new.self.items
          c.in_ok-push.ensures.items c.in_ok-copied.field-0 c.in_ok-copied.ensures,
      field-read x w c.requires.job f (take (length fs - 1) (drop 1 fs)) e (take (length es - 1) (drop 1 es)) b (take (length bs - 1) (drop 1 bs)) u v k z
          c.requires.ready c.in_ok-ty.ensures.grows ty made t c.in_ok-ty.ensures.projection c.push.new.self.items
          c.in_ok-push.ensures.items c.in_ok-copied.field-0 c.in_ok-copied.ensures
          (eq-eqb b.field f (sym c.number.ensures ∙ (c.if-number.false ∙ c.number-2.ensures))),
    )
