-- Written by codegen from types.table: change that, and run codegen/codegen.
-- What it answers, by what it holds.
use Rattle.std.proofs.Common.{refl}
use Rattle.kmip_ttlv_kinds.specs.Choices.{is_failed_at, is_held_at}
use Rattle.kmip_headers.specs.Choices.{asynchronous_indicator_by}
use Rattle.kmip_headers.proofs.header.AsynchronousIndicatorChoice.read_held.Goals as goal

pub returns-in_err-read_one-in-0-clause-read : goal.returns-in_err-read_one-in-0-clause-read
returns-in_err-read_one-in-0-clause-read g c =
    is_failed_at _ _ _ _ _ _ c.in_err-read_one-in-0.ensures.read c.from_residual.ensures.1 c.in-0.is refl

pub returns-in_ok-read_one-in-0-clause-read : goal.returns-in_ok-read_one-in-0-clause-read
unfolding asynchronous_indicator_by
returns-in_ok-read_one-in-0-clause-read g c = is_held_at _ _ _ _ _ c.in_ok-read_one-in-0.ensures.read c.in-0.is refl refl

pub returns-in_err-read_one-in-1-clause-read : goal.returns-in_err-read_one-in-1-clause-read
returns-in_err-read_one-in-1-clause-read g c =
    is_failed_at _ _ _ _ _ _ c.in_err-read_one-in-1.ensures.read c.from_residual-in_err-read_one-in-1.ensures.1 c.in-1.is refl

pub returns-in_ok-read_one-in-1-clause-read : goal.returns-in_ok-read_one-in-1-clause-read
unfolding asynchronous_indicator_by
returns-in_ok-read_one-in-1-clause-read g c = is_held_at _ _ _ _ _ c.in_ok-read_one-in-1.ensures.read c.in-1.is refl refl
