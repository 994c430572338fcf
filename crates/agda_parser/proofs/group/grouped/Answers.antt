use Rattle.std.proofs.Common.{rules, ◌≡◌, [], sym, ap, ◌∙◌, map-id, length}
use Rattle.std.proofs.lemmas.List.{append-nil}
use Rattle.std.proofs.lemmas.Iterator.Adapters.{YieldsList-from_vec}
use Rattle.std.proofs.lemmas.Iterator.Consumers.{YieldsList-end}
use Rattle.std.specs.Vec.Iter.{into_iter_items, into_iter_len}
use Rattle.agda_grammar.specs.Groups.{grouped}
use Rattle.agda_parser.proofs.group.grouped.Goals as goal

pub returns-in_ok-push-in-Some-last-2 : goal.returns-in_ok-push-in-Some-last-2
returns-in_ok-push-in-Some-last-2 c =
    let items : into_iter_items c.into_iter-entry-iterator.result ≡ c.args.entries = search rules in
    let len : into_iter_len c.into_iter-entry-iterator.result ≡ length c.args.entries = search rules in
    let end = YieldsList-end (YieldsList-from_vec {s = c.into_iter-entry-iterator.result} c.args.entries items len) c.loop-entry.yielded c.loop-entry.entry-iterator c.loop-entry.yielded_by c.next.result c.next.new.self c.in-None.is c.next.ensures.steps in
    let all : c.loop-entry.yielded ≡ c.args.entries = sym (map-id c.loop-entry.yielded) ∙ end.0 in
    let now = rw c.in-Some-last-2.is at (c.loop-entry.invariant []) in
    c.in_ok-push-in-Some-last-2.ensures.ok ∙ sym now ∙ ap grouped (append-nil c.loop-entry.yielded ∙ all)

pub returns-in-None-last-2 : goal.returns-in-None-last-2
returns-in-None-last-2 c =
    let items : into_iter_items c.into_iter-entry-iterator.result ≡ c.args.entries = search rules in
    let len : into_iter_len c.into_iter-entry-iterator.result ≡ length c.args.entries = search rules in
    let end = YieldsList-end (YieldsList-from_vec {s = c.into_iter-entry-iterator.result} c.args.entries items len) c.loop-entry.yielded c.loop-entry.entry-iterator c.loop-entry.yielded_by c.next.result c.next.new.self c.in-None.is c.next.ensures.steps in
    let all : c.loop-entry.yielded ≡ c.args.entries = sym (map-id c.loop-entry.yielded) ∙ end.0 in
    let now = rw c.in-None-last-2.is at (c.loop-entry.invariant []) in
    sym (append-nil c.loop-entry.done) ∙ sym now ∙ ap grouped (append-nil c.loop-entry.yielded ∙ all)
