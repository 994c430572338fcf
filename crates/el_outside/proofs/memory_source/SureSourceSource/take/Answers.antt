use Rattle.std.proofs.Common.{◌≡◌, ◌≤◌, length, drop, take, ℕ, ◌+◌, List, ◌++◌, sym, ◌∙◌, ap, arith, length-drop, ◌-◌}
use Rattle.std.proofs.lemmas.List.{take_at, take-append-drop, drop-drop, drop_all, take_all}
use Rattle.std.proofs.lemmas.Grind.{common_steps}
use Rattle.el_outside.proofs.memory_source.SureSourceSource.take.Goals as goal

-- the bytes from `at` on are those given, which stand at the front of the buffer, and those left
taken : (bytes copied others : List ℕ) (at n : ℕ) → copied ≡ take n (drop at bytes) → length copied ≡ n → drop at bytes ≡ take n (copied ++ others) ++ drop (at + n) bytes
taken bytes copied others at n is long = sym (take-append-drop n (drop at bytes)) ∙ ap (λ (l : List ℕ). l ++ drop n (drop at bytes)) (sym is ∙ sym (take_at copied others n long)) ∙ ap (λ (l : List ℕ). take n (copied ++ others) ++ l) (drop-drop n at bytes)

pub returns-clause-bytes : goal.returns-clause-bytes
returns-clause-bytes c =
    let bytes = c.self.inside.bytes.items in
    let at = c.self.inside.at in
    let n = c.min-n.result in
    let within : at ≤ length bytes = c.self.invariant.0 in
    let few : n ≤ length (drop at bytes) = grind (arith, common_steps) in
    let long : length c.copy_from_slice.new.self ≡ n = grind (arith, common_steps) in
    let whole : take (length c.deref.result.now - at) (drop at c.deref.result.now) ≡ drop at c.deref.result.now = take_all _ _ (omega (arith, length-drop at c.deref.result.now)) in
    let is : c.copy_from_slice.new.self ≡ take n (drop at bytes) = c.copy_from_slice.ensures.after ∙ ap (λ (l : List ℕ). take n l) (whole ∙ ap (λ (l : List ℕ). drop at l) c.deref.ensures.value) in
    rw (← c.self.view_is) (
      taken bytes c.copy_from_slice.new.self (drop n c.args.into.now) at n is long,
      λ none room. drop_all (at + n) bytes (grind (arith, common_steps)),
    )
