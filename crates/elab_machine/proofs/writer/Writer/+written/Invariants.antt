use Rattle.std.proofs.Common.{◌≡◌, ◌<◌, ◌≤◌, ◌+◌, ◌-◌, ◌*◌, max, length, drop, take, map}
use Rattle.std.specs.List.{AllByRecursion}
use Rattle.kernel_rules.specs.Outcome.{Outcome}
use Rattle.written_rules.specs.Refusals.{Refusal}
use Rattle.core_rules.specs.Term.{Term}
use Rattle.core_rules.specs.Mapped.{AllEntries, telescope_map}
use Rattle.written_rules.specs.Rules.{lambda, function_type, spine, Found}
use Rattle.resolved_tree.proofs.resolved.ResolvedExpr.TheLaws.{the_size}
use Rattle.elab_machine.specs.Binders.{binders_in}
use Rattle.elab_machine.specs.Writer.{Grows, Keeps, Enters, Read, over, term_of, values_of, signature_of}
use Rattle.elab_machine.specs.Spine.{args_in, under_args, found_in}
use Rattle.elab_machine.proofs.Steps.{Readings, LambdaReadings}
use Rattle.elab_machine.specs.Records.{at_record, fields_put, record_put, values_meant}
use Rattle.elab_machine.proofs.writer.Writer.+written.Given as goal

abbrev pub invariant-enter_domains-loop-binder : goal.invariant-enter_domains-loop-binder
invariant-enter_domains-loop-binder l = record {
  grows : Grows l.fn.self l.self;
  enters : Enters l.fn.self l.self;
  within : AllEntries (λ t. t < length l.self.pool.now.trees) l.entries.items;
  reading : Readings (over l.fn.self) (function_type (binders_in l.fn.self l.binders)) (values_of l.fn.self) (telescope_map (term_of l.self) l.entries.items) l.level
      (function_type (binders_in l.fn.self (drop l.binder-index l.binders))) (values_of l.self);
}

abbrev pub invariant-enter_lambdas-loop-binder : goal.invariant-enter_lambdas-loop-binder
invariant-enter_lambdas-loop-binder l = record {
  grows : Grows l.fn.self l.self;
  enters : Enters l.fn.self l.self;
  within : AllEntries (λ t. t < length l.self.pool.now.trees) l.entries.items;
  wanted : l.wanted < length l.self.pool.now.trees;
  reading : LambdaReadings (over l.fn.self) (lambda l.fn.pos (binders_in l.fn.self l.binders)) (values_of l.fn.self) (term_of l.fn.self l.fn.wanted) (telescope_map (term_of l.self) l.entries.items)
      (lambda l.fn.pos (binders_in l.fn.self (drop l.binder-index l.binders))) (values_of l.self) (term_of l.self l.wanted);
}

abbrev pub invariant-take_arguments-loop-arg : goal.invariant-take_arguments-loop-arg
invariant-take_arguments-loop-arg l = record {
  grows : Grows l.fn.self l.self;
  keeps : Keeps l.fn.self l.self;
  term : l.term < length l.self.pool.now.trees;
  ty : l.ty < length l.self.pool.now.trees;
  terms : AllByRecursion (λ t. t < length l.self.pool.now.trees) l.terms.items;
  start : l.start + l.arg-index ≡ length l.args;
  count : length l.terms.items ≡ length l.args;
  low : l.start ≤ l.end;
  high : l.end ≤ length l.args;
  reading : (r : Outcome Refusal Found) → Read (over l.fn.self) (spine (signature_of l.fn.self) l.fn.pos l.fn.at (values_of l.fn.self) (args_in l.fn.self (drop l.arg-index l.args))
      (under_args l.self.pool.now (term_of l.self l.term) (take (l.end - l.start) (drop l.start l.terms.items)) l.ty)) r
      → Read (over l.fn.self) (spine (signature_of l.fn.self) l.fn.pos l.fn.at (values_of l.fn.self) (args_in l.fn.self l.args) (found_in l.fn.self.pool.now l.fn.found)) r;
}

abbrev pub invariant-check_fields-loop-field : goal.invariant-check_fields-loop-field
invariant-check_fields-loop-field l = record {
  grows : Grows l.fn.self l.self;
  keeps : Keeps l.fn.self l.self;
  term : l.term < length l.self.pool.now.trees;
  env : AllByRecursion (λ t. t < length l.self.pool.now.trees) l.env.items;
  count : length l.env.items ≡ length l.fields + length l.fn.at.params.items;
  start : l.start + l.field-index ≡ length l.fields;
  reading : (r : Outcome Refusal Term) → Read (over l.fn.self) (fields_put l.fn.pos (values_of l.fn.self) (values_meant (signature_of l.fn.self) l.fn.values)
      (telescope_map (term_of l.fn.self) (drop l.field-index l.fields)) (map (term_of l.self) (drop l.start l.env.items)) (term_of l.self l.term)) r
      → Read (over l.fn.self) (record_put l.fn.pos (values_of l.fn.self) (values_meant (signature_of l.fn.self) l.fn.values) (at_record (signature_of l.fn.self) l.fn.self.pool.now l.fn.at)) r;
}

-- ---- each call goes into a part, or to what stands below it at the same part

abbrev pub decreases-check_expr : goal.decreases-check_expr
decreases-check_expr l = 4 * goal.size-check_expr l + 2

abbrev pub decreases-check_lambda : goal.decreases-check_lambda
decreases-check_lambda l = 4 * max (goal.size-check_lambda l) (the_size l.body.now) + 3

abbrev pub decreases-check_name : goal.decreases-check_name
decreases-check_name l = 4 * goal.size-check_name l + 2

abbrev pub decreases-check_type : goal.decreases-check_type
decreases-check_type l = 4 * goal.size-check_type l + 1

abbrev pub decreases-enter_domain : goal.decreases-enter_domain
decreases-enter_domain l = 4 * goal.size-enter_domain l

abbrev pub decreases-enter_domains : goal.decreases-enter_domains
decreases-enter_domains l = 4 * goal.size-enter_domains l + 1

abbrev pub decreases-enter_group : goal.decreases-enter_group
decreases-enter_group l = 4 * goal.size-enter_group l + 1

abbrev pub decreases-enter_lambda : goal.decreases-enter_lambda
decreases-enter_lambda l = 4 * goal.size-enter_lambda l

abbrev pub decreases-enter_lambdas : goal.decreases-enter_lambdas
decreases-enter_lambdas l = 4 * goal.size-enter_lambdas l + 1

abbrev pub decreases-enter_typed : goal.decreases-enter_typed
decreases-enter_typed l = 4 * goal.size-enter_typed l + 1

abbrev pub decreases-take_argument : goal.decreases-take_argument
decreases-take_argument l = 4 * goal.size-take_argument l

abbrev pub decreases-take_arguments : goal.decreases-take_arguments
decreases-take_arguments l = 4 * goal.size-take_arguments l + 1

abbrev pub decreases-take_term : goal.decreases-take_term
decreases-take_term l = 4 * goal.size-take_term l + 3

abbrev pub decreases-type_arrow : goal.decreases-type_arrow
decreases-type_arrow l = 4 * max (goal.size-type_arrow l) (the_size l.body.now) + 2

abbrev pub decreases-type_expr : goal.decreases-type_expr
decreases-type_expr l = 4 * goal.size-type_expr l

abbrev pub decreases-type_function : goal.decreases-type_function
decreases-type_function l = 4 * max (goal.size-type_function l) (the_size l.body.now) + 2

abbrev pub decreases-type_name : goal.decreases-type_name
decreases-type_name l = 4 * goal.size-type_name l + 2

abbrev pub decreases-check_record : goal.decreases-check_record
decreases-check_record l = 4 * goal.size-check_record l + 5

abbrev pub decreases-check_fields : goal.decreases-check_fields
decreases-check_fields l = 4 * goal.size-check_fields l + 4

abbrev pub decreases-put_field : goal.decreases-put_field
decreases-put_field l = 4 * goal.size-put_field l + 3
