use Rattle.std.proofs.Common.{◌∙◌, ap, List, ℕ, drop, rules}
use Rattle.scope_table.proofs.Innermost.{popped_within, kept_popped, texts_popped}
use Rattle.scope_table.proofs.locals.Locals.pop.Goals as goal

pub index_mut-requires : goal.index_mut-requires
index_mut-requires c =
    let lt = popped_within c.self.inside.texts c.self.inside.innermost.items c.self.inside.variables.items c.pop.new.self.items c.in-Some.variable c.in-Some.ensures.items c.self.invariant in
    search rules

pub invariant_of-self-2 : goal.invariant_of-self-2
invariant_of-self-2 c = kept_popped c.self.inside.texts c.self.inside.innermost.items c.self.inside.variables.items c.pop.new.self.items c.in-Some.variable c.in-Some.ensures.items c.self.invariant

pub returns : goal.returns
returns c =
    texts_popped c.self.inside.texts c.self.inside.innermost.items c.self.inside.variables.items c.pop.new.self.items c.in-Some.variable c.in-Some.ensures.items
    ∙ ap (λ (ls : List (List ℕ)). drop 1 ls) c.self.view_is
