-- A text that is the line of a fault is read to its end, and gives that fault.
use Rattle.std.proofs.Common.{◌∙◌, arith}
use Rattle.std.proofs.lemmas.Bool.{both_ways}
use Rattle.fault_line.proofs.Lines.{if_in_range, if_not, none, whole}
use Rattle.fault_line.proofs.Lines.{told_axis, told_stage, told_instruction, told_access, told_cause, told_origin}
use Rattle.fault_line.proofs.Lines.{after_stage, after_instruction, after_access, after_cause, after_origin}
use Rattle.fault_line.proofs.Lines.{after_layer, told_all}
use Rattle.fault_line.proofs.read.read_line.Goals as goal
use Rattle.fault_line.proofs.read.read_line.Goals.{then-ends, else-ends}

pub returns-in_err-stage-clause-read : goal.returns-in_err-stage-clause-read
returns-in_err-stage-clause-read c =
    none c.args.line.now _ c.from_residual-in_err-stage.ensures (λ f v e.
    c.in_err-stage.ensures f.stage (after_stage f) v.stage_in
    (told_axis f v e c.in_ok-axis.ensures).1)

pub returns-in_err-address-clause-read : goal.returns-in_err-address-clause-read
returns-in_err-address-clause-read c =
    none c.args.line.now _ c.from_residual-in_err-address.ensures (λ f v e.
    c.in_err-address.ensures f.instruction (after_instruction f) v.instruction_in
    (told_stage f v e c.in_ok-axis.ensures c.in_ok-stage.ensures).1)

pub returns-in_err-address-2-clause-read : goal.returns-in_err-address-2-clause-read
returns-in_err-address-2-clause-read c =
    none c.args.line.now _ c.from_residual-in_err-address-2.ensures (λ f v e.
    c.in_err-address-2.ensures f.access (after_access f) v.access_in
    (told_instruction f v e c.in_ok-axis.ensures c.in_ok-stage.ensures c.in_ok-address.ensures).1)

pub returns-in_err-cause-clause-read : goal.returns-in_err-cause-clause-read
returns-in_err-cause-clause-read c =
    none c.args.line.now _ c.from_residual-in_err-cause.ensures (λ f v e.
    c.in_err-cause.ensures f.cause (after_cause f) v.cause_in
    (told_access f v e c.in_ok-axis.ensures c.in_ok-stage.ensures c.in_ok-address.ensures c.in_ok-address-2.ensures).1)

pub returns-in_err-address-3-clause-read : goal.returns-in_err-address-3-clause-read
returns-in_err-address-3-clause-read c =
    none c.args.line.now _ c.from_residual-in_err-address-3.ensures (λ f v e.
    c.in_err-address-3.ensures f.origin (after_origin f) v.origin_in
    (told_cause f v e c.in_ok-axis.ensures c.in_ok-stage.ensures c.in_ok-address.ensures c.in_ok-address-2.ensures
    c.in_ok-cause.ensures).1)

pub returns-in_err-layer-clause-read : goal.returns-in_err-layer-clause-read
returns-in_err-layer-clause-read c =
    none c.args.line.now _ c.from_residual-in_err-layer.ensures (λ f v e.
    c.in_err-layer.ensures f.layer (after_layer f) (omega (arith, v.layer_in))
    (told_origin f v e c.in_ok-axis.ensures c.in_ok-stage.ensures c.in_ok-address.ensures c.in_ok-address-2.ensures
    c.in_ok-cause.ensures c.in_ok-address-3.ensures).1)

pub returns-clause-read : goal.returns-clause-read
returns-clause-read c =
    let line = c.args.line.now in
    rw c.then_some.ensures
    (elim c.if-ends.branch [
      | then-ends w ↦
          (if_in_range line _ _ _ w.then_some-is w.in_range.ensures
          (whole c.in_ok-axis.field-0 c.in_ok-stage.field-0 c.in_ok-address.field-0 c.in_ok-address-2.field-0
          c.in_ok-cause.field-0 c.in_ok-address-3.field-0 c.in_ok-layer.field-0
          c.in_ok-axis.ensures.1 c.in_ok-stage.ensures.1 c.in_ok-address.ensures.1 c.in_ok-address-2.ensures.1
          c.in_ok-cause.ensures.1 c.in_ok-address-3.ensures.1 c.in_ok-layer.ensures.1
          (c.ends.ensures.0 w.if-ends.true))
          (λ f v e. (told_all f v e c.in_ok-axis.ensures c.in_ok-stage.ensures c.in_ok-address.ensures c.in_ok-address-2.ensures
          c.in_ok-cause.ensures c.in_ok-address-3.ensures c.in_ok-layer.ensures).0))
      | else-ends w ↦
          (if_not line _ _ (w.then_some-is ∙ w.if-ends.false)
          (λ f v e.
          both_ways _ w.if-ends.false
          (c.ends.ensures.1 (told_all f v e c.in_ok-axis.ensures c.in_ok-stage.ensures c.in_ok-address.ensures c.in_ok-address-2.ensures
          c.in_ok-cause.ensures c.in_ok-address-3.ensures c.in_ok-layer.ensures).1)))
    ])
