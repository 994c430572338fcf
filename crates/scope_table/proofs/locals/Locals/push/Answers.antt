use Rattle.std.proofs.Common.{◌≡◌, ◌<◌, ◌^◌, ◌∙◌, ap, ℕ, List, ◌∷◌, length, refl, rules, arith}
use Rattle.std.specs.Option.{unwrap_or}
use Rattle.std.proofs.lemmas.Grind.{get_or_default_zero}
use Rattle.std.proofs.lemmas.List.{length-reverse}
use Rattle.scope_table.specs.Known.{place_of}
use Rattle.scope_table.proofs.Innermost.{place_next, kept_named, kept_pushed, texts_pushed}
use Rattle.scope_table.proofs.locals.Locals.push.Goals as goal

pub make_room-requires : goal.make_room-requires
make_room-requires c =
    let at : c.unwrap_or-at.result ≡ unwrap_or (place_of c.self.inside.texts c.args.text.now) (length c.self.inside.texts) = rw (c.unwrap_or-at.ensures, c.find.ensures, c.len-2.ensures) refl in
    let le = place_next c.self.inside.texts c.args.text.now in
    let room = c.self.invariant.room in
    omega arith

pub invariant_of-self-in_default : goal.invariant_of-self-in_default
invariant_of-self-in_default c =
    let at : c.unwrap_or-at.result ≡ unwrap_or (place_of c.self.inside.texts c.args.text.now) (length c.self.inside.texts) = rw (c.unwrap_or-at.ensures, c.find.ensures, c.len-2.ensures) refl in
    rw c.in_default.ensures.items
    (kept_named c.self.inside.texts c.put.new.self c.args.text.now c.self.inside.innermost.items c.make_room.new.depths.items c.self.inside.variables.items c.unwrap_or-at.result
    c.self.invariant at c.in_ok-make_room.ensures.room c.make_room.ensures.longer c.make_room.ensures.same c.in_ok-put.ensures.ok)

pub invariant_of-self-2 : goal.invariant_of-self-2
invariant_of-self-2 c =
    let at : c.unwrap_or-at.result ≡ unwrap_or (place_of c.self.inside.texts c.args.text.now) (length c.self.inside.texts) = rw (c.unwrap_or-at.ensures, c.find.ensures, c.len-2.ensures) refl in
    let kept =
    kept_named c.self.inside.texts c.put.new.self c.args.text.now c.self.inside.innermost.items c.make_room.new.depths.items c.self.inside.variables.items c.unwrap_or-at.result
    c.self.invariant at c.in_ok-make_room.ensures.room c.make_room.ensures.longer c.make_room.ensures.same c.in_ok-put.ensures.ok in
    let len : c.len-depth.result ≡ length c.push.new.self.items = search rules in
    let few : c.len-depth.result < 2 ^ 32 = search (rules, length-reverse c.self.inside.variables.items) in
    kept_pushed c.self.inside.texts c.put.new.self c.args.text.now c.self.inside.innermost.items c.make_room.new.depths.items c.self.inside.variables.items c.unwrap_or-at.result
    record { text = c.unwrap_or-at.result; hides = c.index-hides.result.now } c.push.new.self.items refl c.in-Ok.ensures.items at c.in_ok-put.ensures.ok
    kept c.len-depth.result len few (c.index-hides.ensures ∙ get_or_default_zero c.make_room.new.depths.items c.unwrap_or-at.result c.index-hides.result.now c.in_ok-make_room.ensures.room)

pub returns : goal.returns
returns c =
    let at : c.unwrap_or-at.result ≡ unwrap_or (place_of c.self.inside.texts c.args.text.now) (length c.self.inside.texts) = rw (c.unwrap_or-at.ensures, c.find.ensures, c.len-2.ensures) refl in
    texts_pushed c.self.inside.texts c.put.new.self c.args.text.now c.self.inside.innermost.items c.make_room.new.depths.items c.self.inside.variables.items c.unwrap_or-at.result
    record { text = c.unwrap_or-at.result; hides = c.index-hides.result.now } c.push.new.self.items refl c.in-Ok.ensures.items at c.in_ok-put.ensures.ok c.self.invariant.hide
    ∙ ap (λ (ls : List (List ℕ)). c.args.text.now ∷ ls) c.self.view_is
