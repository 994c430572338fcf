use Rattle.std.proofs.Common.{◌≡◌, ◌<◌, ℕ, List, length, ap, ap₂, sym, subst, ◌∙◌, arith}
use Rattle.std.specs.Prelude.{Bool, Some, option_map, is_some}
use Rattle.std.proofs.lemmas.List.{length-map}
use Rattle.std.proofs.lemmas.Result.{err_from_is_err_and}
use Rattle.core_rules.proofs.Heads.Mapped.{con_decl-map}
use Rattle.core_rules.proofs.Heads.OneAnswer.{one_some}
use Rattle.core_rules.specs.Term.{Term}
use Rattle.core_rules.specs.Signature.{ConDecl, Entry, Signature, Telescope, con_decl}
use Rattle.core_rules.specs.Mapped.{AllEntries, con_map, entry_map, telescope_map}
use Rattle.kernel_rules.specs.Outcome.{Outcome, Gives, Refuses}
use Rattle.term_pool.specs.Pool.{tree}
use Rattle.lhs_rules.specs.Refusals.{Refusal}
use Rattle.lhs_rules.specs.Rules.{Slot, aligned, all_inserted, constructor, slot_entries, split_at}
use Rattle.lhs_rules.specs.Spots.{AtVar, Left, spot_at}
use Rattle.lhs_elab.specs.declared.elaborator.Elaborator.{Elaborator}
use Rattle.lhs_elab.specs.Asked.{IsSplit}
use Rattle.lhs_elab.specs.Constructors.{con_put}
use Rattle.lhs_elab.specs.Elaborator.{Comes, left_of, over, signature_of}
use Rattle.lhs_elab.specs.Lefts.{SpotBelow, spot_in}
use Rattle.lhs_elab.specs.Reading.{meanings}
use Rattle.lhs_elab.specs.Slots.{slots_of}
use Rattle.lhs_elab.proofs.ConSteps.{con-refused, is-put, not-aligned, not-put, not-variable}
use Rattle.lhs_elab.proofs.FamilyCons.{con-stands}
use Rattle.lhs_elab.proofs.Kept.{Same, same-full, same-left, same-over, same-ready, signature-kept}
use Rattle.lhs_elab.proofs.Entered.{no-variable, put-as}
use Rattle.lhs_elab.proofs.Naming.{slot_entries-length}
use Rattle.lhs_elab.proofs.Refusing.{refused-as}
use Rattle.lhs_elab.proofs.SplitContexts.{split-var}
use Rattle.lhs_elab.proofs.elaborator.Elaborator.enter_con.Goals as goal

pub returns-in_err-at-clause-is : goal.returns-in_err-at-clause-is
returns-in_err-at-clause-is g c = λ f full.
    let F = g.S.Solutions.solution in
    let x = c.args.self.now in
    let e = err_from_is_err_and c.from_residual.result c.from_residual.ensures.1 in
    rw (e.1, e.2) (con-refused (over F f x) (signature_of x) x.function c.args.pos c.args.con (meanings x c.args.patterns.now) c.args.number (left_of x) c.con_at.new.self.pool.now c.in_err-at.field-0.0 (c.in_err-at.ensures.is f))

pub con_decl-decl-requires : goal.con_decl-decl-requires
con_decl-decl-requires g c =
    let k = c.in_ok-at.ensures in
    record { con = ap (λ (s : Signature ℕ). is_some (con_decl s c.args.con)) k.keeps.signature ∙ k.con }

-- the constructor that the rules see is that of the signature in code
same-con : {S : Type 0} (x : Elaborator S) (k : ℕ) (d : ConDecl ℕ) (r : ConDecl Term) → con_decl x.signature.now k ≡ Some d → con_decl (signature_of x) k ≡ Some r → r ≡ con_map (tree x.pool.now) d
same-con x k d r e h = one_some (sym h ∙ (con_decl-map (tree x.pool.now) x.signature.now k ∙ ap (option_map (con_map (tree x.pool.now))) e))

pub returns-in_err-written-clause-is : goal.returns-in_err-written-clause-is
returns-in_err-written-clause-is g c = λ f full.
    let F = g.S.Solutions.solution in
    let x = c.args.self.now in
    let y = c.con_at.new.self in
    let k = c.in_ok-at.ensures in
    let G = signature_of x in
    let q = y.pool.now in
    let o = over F f x in
    let ms = meanings x c.args.patterns.now in
    let es = telescope_map (tree q) c.arguments_of-arguments.result.now in
    let r = k.is f in
    let kept : signature_of y ≡ G = signature-kept F x y c.requires.ready k.grows k.keeps in
    let given = same-con y c.args.con c.con_decl-decl.result.now r.0.con c.con_decl-decl.ensures (ap (λ (h : Signature Term). con_decl h c.args.con) kept ∙ r.2) in
    let args : es ≡ r.0.con.args = ap (telescope_map (tree q)) c.arguments_of-arguments.ensures ∙ sym (ap (λ (d : ConDecl Term). d.args) given) in
    let e = err_from_is_err_and c.from_residual-in_err-written.result c.from_residual-in_err-written.ensures.1 in
    rw (e.1, e.2)
    (refused-as q (λ (x : Refusal). ◌≡◌ {A = Outcome Refusal (List Slot)} (Refuses x) (aligned G c.args.pos ms es)) (λ (v : Refusal). Comes o (constructor G x.function c.args.pos c.args.con ms c.args.number (left_of x)) (Refuses v))
    (λ (v : Refusal) h. not-aligned o G x.function c.args.pos c.args.con ms c.args.number (left_of x) r.0 r.3 v (h ∙ ap (aligned G c.args.pos ms) args)) c.in_err-written.field-0.0 (c.in_err-written.ensures G x.function q))

pub returns-in_default-clause-is : goal.returns-in_default-clause-is
returns-in_default-clause-is g c = λ f full.
    let F = g.S.Solutions.solution in
    let x = c.args.self.now in
    let y = c.con_at.new.self in
    let k = c.in_ok-at.ensures in
    let m : Same x y = record { grows = k.grows; keeps = k.keeps; left = k.left } in
    let G = signature_of x in
    let q = y.pool.now in
    let ms = meanings x c.args.patterns.now in
    let r = k.is f in
    let kept : signature_of y ≡ G = signature-kept F x y c.requires.ready k.grows k.keeps in
    let given = same-con y c.args.con c.con_decl-decl.result.now r.0.con c.con_decl-decl.ensures (ap (λ (h : Signature Term). con_decl h c.args.con) kept ∙ r.2) in
    let args : telescope_map (tree q) c.arguments_of-arguments.result.now ≡ r.0.con.args = ap (telescope_map (tree q)) c.arguments_of-arguments.ensures ∙ sym (ap (λ (d : ConDecl Term). d.args) given) in
    let qs = slots_of c.in_ok-written.written.items ms in
    let slots : ◌≡◌ {A = Outcome Refusal (List Slot)} (Gives qs) (aligned G c.args.pos ms r.0.con.args) = c.in_ok-written.ensures G x.function q ∙ ap (aligned G c.args.pos ms) args in
    let here : spot_in (tree q) c.spot.result ≡ spot_at (left_of x) c.args.number = c.spot.ensures.is ∙ ap (λ (l : Left). spot_at l c.args.number) (same-left F x y c.requires.ready m) in
    rw c.refused.ensures (not-variable (over F f x) G x.function c.args.pos c.args.con ms c.args.number (left_of x) r.0 r.3 qs slots (λ i e. no-variable (tree q) c.spot.result c.in_default.not-Var i (here ∙ e)))

pub put_con-requires : goal.put_con-requires
put_con-requires g c =
    let F = g.S.Solutions.solution in
    let x = c.args.self.now in
    let y = c.con_at.new.self in
    let k = c.in_ok-at.ensures in
    let m : Same x y = record { grows = k.grows; keeps = k.keeps; left = k.left } in
    let ready = same-ready F x y c.requires.ready m in
    let decl = c.con_decl-decl.result.now in
    let stands = con-stands y.pool.now y.signature.now c.args.con decl ready.signature c.con_decl-decl.ensures in
    let n = length y.pool.now.trees in
    let p = y.pool.now in
    let es = c.in_ok-named.named.entries.items in
    let named = c.in_ok-named.ensures.entries (signature_of x) x.function p in
    let a = ap (λ (xs : Telescope Term). length xs) named in
    let b = ap (λ (xs : List (Entry ℕ)). length xs) c.arguments_of-arguments.ensures in
    record {
      ready = ready;
      level = subst (SpotBelow n (length y.left.now.context.items)) c.in-Var.is (c.spot.ensures.below ready);
      decl = stands;
      at = k.at;
      named = c.in_ok-named.ensures.below n (subst (λ (xs : List (Entry ℕ)). AllEntries (λ t. t < n) xs) (sym c.arguments_of-arguments.ensures) stands.args);
      as_many = omega (arith, a, b, length-map es (entry_map (tree p)), length-map c.arguments_of-arguments.result.now (entry_map (tree p)), slot_entries-length (slots_of c.as_slice.result.now (meanings x c.args.patterns.now)) (telescope_map (tree p) c.arguments_of-arguments.result.now));
    }

pub returns-in_err-put_con-clause-is : goal.returns-in_err-put_con-clause-is
returns-in_err-put_con-clause-is g c = λ f full.
    let F = g.S.Solutions.solution in
    let x = c.args.self.now in
    let y = c.con_at.new.self in
    let z = c.put_con.new.self in
    let k = c.in_ok-at.ensures in
    let m : Same x y = record { grows = k.grows; keeps = k.keeps; left = k.left } in
    let ready = same-ready F x y c.requires.ready m in
    let G = signature_of x in
    let q = y.pool.now in
    let o = over F f x in
    let ms = meanings x c.args.patterns.now in
    let r = k.is f in
    let a = c.in_ok-at.at in
    let decl = c.con_decl-decl.result.now in
    let kept : signature_of y ≡ G = signature-kept F x y c.requires.ready k.grows k.keeps in
    let given : r.0.con ≡ con_map (tree q) decl = same-con y c.args.con decl r.0.con c.con_decl-decl.ensures (ap (λ (h : Signature Term). con_decl h c.args.con) kept ∙ r.2) in
    let args : telescope_map (tree q) c.arguments_of-arguments.result.now ≡ r.0.con.args = ap (telescope_map (tree q)) c.arguments_of-arguments.ensures ∙ sym (ap (λ (d : ConDecl Term). d.args) given) in
    let qs = slots_of c.in_ok-written.written.items ms in
    let slots : ◌≡◌ {A = Outcome Refusal (List Slot)} (Gives qs) (aligned G c.args.pos ms r.0.con.args) = c.in_ok-written.ensures G x.function q ∙ ap (aligned G c.args.pos ms) args in
    let left : left_of y ≡ left_of x = same-left F x y c.requires.ready m in
    let level = c.in-Var.level in
    let here : spot_at (left_of x) c.args.number ≡ AtVar level = sym (ap (λ (l : Left). spot_at l c.args.number) left) ∙ (sym c.spot.ensures.is ∙ ap (spot_in (tree q)) c.in-Var.is) in
    let within : level < length y.left.now.context.items = subst (SpotBelow (length q.trees) (length y.left.now.context.items)) c.in-Var.is (c.spot.ensures.below ready) in
    let s = split_at x.function (left_of x) level r.0.at in
    let split : IsSplit q y.left.now.context.items level a s = subst (λ (l : Left). IsSplit q y.left.now.context.items level a (split_at x.function l level r.0.at)) left (split-var q G x.function y.left.now r.0.at a r.1 level within) in
    let es : Telescope Term = telescope_map (tree q) c.in_ok-named.named.entries.items in
    let hidden = c.in_ok-named.named.hidden in
    let written : c.as_slice.result.now ≡ c.in_ok-written.written.items = c.as_slice.ensures.value in
    let entries : es ≡ slot_entries qs r.0.con.args = c.in_ok-named.ensures.entries G x.function q ∙ ap₂ (λ (ws : List Bool) (ts : Telescope Term). slot_entries (slots_of ws ms) ts) written args in
    let inserted : hidden ≡ all_inserted qs = c.in_ok-named.ensures.hidden G x.function ∙ ap (λ (ws : List Bool). all_inserted (slots_of ws ms)) written in
    let there : (v : Outcome Refusal Left) → Comes (over F f y) (con_put c.args.pos c.args.con (con_map (tree q) decl) es hidden level s (left_of y)) v → Comes o (con_put c.args.pos c.args.con r.0.con es hidden level s (left_of x)) v =
    put-as (over F f y) o c.args.pos c.args.con (con_map (tree q) decl) r.0.con es hidden level s (left_of y) (left_of x) (same-over F x y c.requires.ready m f) (sym given) left in
    let e = err_from_is_err_and c.from_residual-in_err-put_con.result c.from_residual-in_err-put_con.ensures.1 in
    rw (e.1, e.2)
    (not-put o G x.function c.args.pos c.args.con ms c.args.number (left_of x) r.0 r.3 qs slots level here es hidden entries inserted z.pool.now c.in_err-put_con.field-0.0
    (refused-as z.pool.now (λ (v : Refusal). Comes (over F f y) (con_put c.args.pos c.args.con (con_map (tree q) decl) es hidden level s (left_of y)) (Refuses v)) (λ (v : Refusal). Comes o (con_put c.args.pos c.args.con r.0.con es hidden level s (left_of x)) (Refuses v))
    (λ (v : Refusal) h. there (Refuses v) h) c.in_err-put_con.field-0.0 (c.in_err-put_con.ensures.is f s (same-full F x y c.requires.ready m f full) split)))

pub returns-clause-is : goal.returns-clause-is
returns-clause-is g c = λ f full.
    let F = g.S.Solutions.solution in
    let x = c.args.self.now in
    let y = c.con_at.new.self in
    let z = c.put_con.new.self in
    let k = c.in_ok-at.ensures in
    let m : Same x y = record { grows = k.grows; keeps = k.keeps; left = k.left } in
    let ready = same-ready F x y c.requires.ready m in
    let G = signature_of x in
    let q = y.pool.now in
    let o = over F f x in
    let ms = meanings x c.args.patterns.now in
    let r = k.is f in
    let a = c.in_ok-at.at in
    let decl = c.con_decl-decl.result.now in
    let kept : signature_of y ≡ G = signature-kept F x y c.requires.ready k.grows k.keeps in
    let given : r.0.con ≡ con_map (tree q) decl = same-con y c.args.con decl r.0.con c.con_decl-decl.ensures (ap (λ (h : Signature Term). con_decl h c.args.con) kept ∙ r.2) in
    let args : telescope_map (tree q) c.arguments_of-arguments.result.now ≡ r.0.con.args = ap (telescope_map (tree q)) c.arguments_of-arguments.ensures ∙ sym (ap (λ (d : ConDecl Term). d.args) given) in
    let qs = slots_of c.in_ok-written.written.items ms in
    let slots : ◌≡◌ {A = Outcome Refusal (List Slot)} (Gives qs) (aligned G c.args.pos ms r.0.con.args) = c.in_ok-written.ensures G x.function q ∙ ap (aligned G c.args.pos ms) args in
    let left : left_of y ≡ left_of x = same-left F x y c.requires.ready m in
    let level = c.in-Var.level in
    let here : spot_at (left_of x) c.args.number ≡ AtVar level = sym (ap (λ (l : Left). spot_at l c.args.number) left) ∙ (sym c.spot.ensures.is ∙ ap (spot_in (tree q)) c.in-Var.is) in
    let within : level < length y.left.now.context.items = subst (SpotBelow (length q.trees) (length y.left.now.context.items)) c.in-Var.is (c.spot.ensures.below ready) in
    let s = split_at x.function (left_of x) level r.0.at in
    let split : IsSplit q y.left.now.context.items level a s = subst (λ (l : Left). IsSplit q y.left.now.context.items level a (split_at x.function l level r.0.at)) left (split-var q G x.function y.left.now r.0.at a r.1 level within) in
    let es : Telescope Term = telescope_map (tree q) c.in_ok-named.named.entries.items in
    let hidden = c.in_ok-named.named.hidden in
    let written : c.as_slice.result.now ≡ c.in_ok-written.written.items = c.as_slice.ensures.value in
    let entries : es ≡ slot_entries qs r.0.con.args = c.in_ok-named.ensures.entries G x.function q ∙ ap₂ (λ (ws : List Bool) (ts : Telescope Term). slot_entries (slots_of ws ms) ts) written args in
    let inserted : hidden ≡ all_inserted qs = c.in_ok-named.ensures.hidden G x.function ∙ ap (λ (ws : List Bool). all_inserted (slots_of ws ms)) written in
    let there : (v : Outcome Refusal Left) → Comes (over F f y) (con_put c.args.pos c.args.con (con_map (tree q) decl) es hidden level s (left_of y)) v → Comes o (con_put c.args.pos c.args.con r.0.con es hidden level s (left_of x)) v =
    put-as (over F f y) o c.args.pos c.args.con (con_map (tree q) decl) r.0.con es hidden level s (left_of y) (left_of x) (same-over F x y c.requires.ready m f) (sym given) left in
    is-put o G x.function c.args.pos c.args.con ms c.args.number (left_of x) r.0 r.3 qs slots level here es hidden entries inserted (left_of z)
    (there (Gives (left_of z)) (c.in_ok-put_con.ensures.is f s (same-full F x y c.requires.ready m f full) split))
