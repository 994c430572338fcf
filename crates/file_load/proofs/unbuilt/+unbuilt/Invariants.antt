use Rattle.std.proofs.Common.{◌≡◌, map, drop}
use Rattle.file_load.specs.Unbuilt as spec
use Rattle.file_load.specs.Unbuilt.{first_by, first_of}
use Rattle.file_load.proofs.unbuilt.+unbuilt.Given as goal

abbrev pub invariant-in_args-loop-arg : goal.invariant-in_args-loop-arg
invariant-in_args-loop-arg l = first_of (map spec.in_arg l.args) ≡ first_of (map spec.in_arg (drop l.arg-index l.args))

abbrev pub invariant-in_binders-loop-binder : goal.invariant-in_binders-loop-binder
invariant-in_binders-loop-binder l = first_by spec.of_function_type (map spec.in_binder l.binders) ≡ first_by spec.of_function_type (map spec.in_binder (drop l.binder-index l.binders))

abbrev pub invariant-in_lambda-loop-binder : goal.invariant-in_lambda-loop-binder
invariant-in_lambda-loop-binder l = first_by spec.of_lambda (map spec.in_binder l.binders) ≡ first_by spec.of_lambda (map spec.in_binder (drop l.binder-index l.binders))

abbrev pub invariant-in_values-loop-value : goal.invariant-in_values-loop-value
invariant-in_values-loop-value l = first_of (map spec.in_value l.values) ≡ first_of (map spec.in_value (drop l.value-index l.values))
