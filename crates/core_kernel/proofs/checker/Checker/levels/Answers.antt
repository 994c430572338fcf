use Rattle.std.proofs.Common.{◌≡◌, ◌<◌, ◌++◌, ◌∷◌, ◌-◌, [], ℕ, List, length, take, drop, ap, sym, subst, ◌∙◌}
use Rattle.std.proofs.lemmas.Result.{err_from_is_err_and}
use Rattle.core_rules.specs.Signature.{Entry}
use Rattle.core_rules.specs.Mapped.{telescope_map}
use Rattle.kernel_rules.specs.Outcome.{Gives, Outcome, Refuses}
use Rattle.kernel_rules.specs.Refusals.{Refusal}
use Rattle.core_kernel.specs.declared.checker.Checker.{Checker}
use Rattle.core_kernel.specs.Answers.{RefusedBy}
use Rattle.core_kernel.specs.Checker.{Grows, HasLevel, IsTerm, over, term_of}
use Rattle.core_kernel.specs.Family.{Levels}
use Rattle.core_kernel.proofs.Checking.{Grows-trans}
use Rattle.core_kernel.proofs.Entering.{entry_kept, entry_more, entry_next, entry_refused, entry_scope, entry_term, entry_within, levels_done, reading_entered, ready_entered}
use Rattle.core_kernel.proofs.Levels.{prefixed}
use Rattle.conversion.proofs.Slices.{none_within, unrolled}
use Rattle.core_kernel.proofs.checker.Checker.levels.Goals as goal

pub level-requires-clause-term : goal.level-requires-clause-term
level-requires-clause-term c =
    let i = c.loop-left.invariant in
    let left = c.loop-left.left.now in
    let e = c.entry-item.result in
    let first : left ≡ e ∷ take (length left - 1) (drop 1 left) = unrolled left e c.in-len1-up.len_at_least c.entry-item.is in
    let d : c.entry.inside.ty ≡ e.ty = ap (λ (w : Entry ℕ). w.ty) c.entry.view_is in
    subst (λ t. IsTerm c.loop-left.self t) (sym d) (entry_term c.requires.ready i.grows i.signature left (take (length left - 1) (drop 1 left)) e first i.entries i.scope)

pub returns-in_err-level-clause-is : goal.returns-in_err-level-clause-is
returns-in_err-level-clause-is c =
    let p = err_from_is_err_and c.from_residual.result c.from_residual.ensures.1 in
    let i = c.loop-left.invariant in
    let x = c.args.self.now in
    let y = c.loop-left.self in
    let q = c.level.new.self.pool.now in
    let left = c.loop-left.left.now in
    let e = c.entry-item.result in
    let f = c.in_err-level.field-0.0 in
    let first : left ≡ e ∷ take (length left - 1) (drop 1 left) = unrolled left e c.in-len1-up.len_at_least c.entry-item.is in
    let d : c.entry.inside.ty ≡ e.ty = ap (λ (w : Entry ℕ). w.ty) c.entry.view_is in
    rw (p.1, p.2)
    (entry_refused c.requires.ready i.grows i.signature left (take (length left - 1) (drop 1 left)) e first i.entries (λ o. Levels (over x) (telescope_map (term_of x) c.args.entries.now) o) c.loop-left.levels.items i.reading q f
    (subst (λ (t : ℕ). RefusedBy q (λ r. HasLevel (over y) (term_of y t) (Refuses r)) f) d c.in_err-level.ensures.is))

pub loop-left-preserved : goal.loop-left-preserved
loop-left-preserved c =
    let i = c.loop-left.invariant in
    let x = c.args.self.now in
    let y = c.loop-left.self in
    let w = c.level.new.self in
    let z : Checker = record {
      pool = w.pool;
      signature = w.signature;
      context = record { ref_ptr = w.context.ref_ptr; ghost_name = w.context.ghost_name; now = c.push-in-len1-up.new.self };
      limits = w.limits;
      alloc = w.alloc;
    } in
    let k = c.in_ok-level.ensures in
    let n = c.in_ok-level.level in
    let left = c.loop-left.left.now in
    let more = take (length left - 1) (drop 1 left) in
    let e = c.entry-item.result in
    let ls = c.loop-left.levels.items in
    let zs = c.push-in-len1-up.new.self.items in
    let first : left ≡ e ∷ more = unrolled left e c.in-len1-up.len_at_least c.entry-item.is in
    let d : c.entry.inside.ty ≡ e.ty = ap (λ (w : Entry ℕ). w.ty) c.entry.view_is in
    let grows : Grows y z = record { same_reference = k.grows.same_reference; extends = k.grows.extends } in
    let context : zs ≡ y.context.now.items ++ e ∷ [] = c.in_ok-push-2.ensures.items ∙ (ap (λ (v : Entry ℕ). w.context.now.items ++ v ∷ []) c.entry.view_is ∙ ap (λ (ys : List (Entry ℕ)). ys ++ e ∷ []) k.keeps.context) in
    let within : e.ty < length y.pool.now.trees = entry_within c.requires.ready i.grows i.signature left more e first i.entries in
    let has : HasLevel (over y) (term_of y e.ty) (Gives n) = subst (λ (t : ℕ). HasLevel (over y) (term_of y t) (Gives n)) d k.is in
    let items : c.push.new.self.items ≡ ls ++ n ∷ [] = c.in_ok-push.ensures.items in
    let before : (o : Outcome Refusal (List ℕ)) → Levels (over y) (telescope_map (term_of x) (e ∷ more)) o → Levels (over x) (telescope_map (term_of x) c.args.entries.now) (prefixed ls o) =
    λ o h. i.reading o (subst (λ (es : List (Entry ℕ)). Levels (over y) (telescope_map (term_of x) es) o) (sym first) h) in
    record {
      grows = Grows-trans i.grows grows;
      signature = k.keeps.signature ∙ i.signature;
      limits = k.keeps.limits ∙ i.limits;
      context = entry_next c.requires.ready i.grows i.signature left more e first i.entries y.context.now.items zs (x.context.now.items ++ c.args.entries.now) context i.context;
      ready = ready_entered i.ready e within grows k.keeps.signature k.keeps.limits context;
      entries = entry_more c.requires.ready i.grows i.signature left more e first i.entries;
      scope = entry_scope c.requires.ready i.grows i.signature left more e first i.entries i.scope zs context;
      reading = λ o h.
          subst (λ (ms : List ℕ). Levels (over x) (telescope_map (term_of x) c.args.entries.now) (prefixed ms o)) (sym items)
          (reading_entered i.ready e within grows k.keeps.signature k.keeps.limits context x (λ r. Levels (over x) (telescope_map (term_of x) c.args.entries.now) r) more ls n
          (entry_kept c.requires.ready i.grows i.signature left more e first i.entries) has before o h);
    }

pub returns-clause-is : goal.returns-clause-is
returns-clause-is c =
    let i = c.loop-left.invariant in
    let x = c.args.self.now in
    let done = levels_done (over c.loop-left.self) (term_of x) (λ r. Levels (over x) (telescope_map (term_of x) c.args.entries.now) r) c.loop-left.left.now c.loop-left.levels.items (none_within c.loop-left.left.now c.in_default.len_below) i.reading in
    subst (λ (ms : List ℕ). Levels (over x) (telescope_map (term_of x) c.args.entries.now) (Gives ms)) (sym c.from_vec.ensures) done
