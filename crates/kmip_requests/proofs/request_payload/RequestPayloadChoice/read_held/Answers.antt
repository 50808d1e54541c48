-- Written by codegen from types.table: change that, and run codegen/codegen.
-- What it answers, by what it holds.
use Rattle.std.proofs.Common.{refl}
use Rattle.kmip_ttlv_kinds.specs.Choices.{is_failed_at, is_held_at}
use Rattle.kmip_requests.specs.Choices.{request_payload_by}
use Rattle.kmip_requests.proofs.request_payload.RequestPayloadChoice.read_held.Goals as goal

pub returns-in_err-read_one-in-0-clause-read : goal.returns-in_err-read_one-in-0-clause-read
returns-in_err-read_one-in-0-clause-read g c =
    is_failed_at _ _ _ _ _ _ c.in_err-read_one-in-0.ensures.read c.from_residual.ensures.1 c.in-0.is refl

pub returns-in_ok-read_one-in-0-clause-read : goal.returns-in_ok-read_one-in-0-clause-read
unfolding request_payload_by
returns-in_ok-read_one-in-0-clause-read g c = is_held_at _ _ _ _ _ c.in_ok-read_one-in-0.ensures.read c.in-0.is refl refl

pub returns-in_err-read_one-in-1-clause-read : goal.returns-in_err-read_one-in-1-clause-read
returns-in_err-read_one-in-1-clause-read g c =
    is_failed_at _ _ _ _ _ _ c.in_err-read_one-in-1.ensures.read c.from_residual-in_err-read_one-in-1.ensures.1 c.in-1.is refl

pub returns-in_ok-read_one-in-1-clause-read : goal.returns-in_ok-read_one-in-1-clause-read
unfolding request_payload_by
returns-in_ok-read_one-in-1-clause-read g c = is_held_at _ _ _ _ _ c.in_ok-read_one-in-1.ensures.read c.in-1.is refl refl

pub returns-in_err-read_one-in-2-clause-read : goal.returns-in_err-read_one-in-2-clause-read
returns-in_err-read_one-in-2-clause-read g c =
    is_failed_at _ _ _ _ _ _ c.in_err-read_one-in-2.ensures.read c.from_residual-in_err-read_one-in-2.ensures.1 c.in-2.is refl

pub returns-in_ok-read_one-in-2-clause-read : goal.returns-in_ok-read_one-in-2-clause-read
unfolding request_payload_by
returns-in_ok-read_one-in-2-clause-read g c = is_held_at _ _ _ _ _ c.in_ok-read_one-in-2.ensures.read c.in-2.is refl refl

pub returns-in_err-read_one-in-3-clause-read : goal.returns-in_err-read_one-in-3-clause-read
returns-in_err-read_one-in-3-clause-read g c =
    is_failed_at _ _ _ _ _ _ c.in_err-read_one-in-3.ensures.read c.from_residual-in_err-read_one-in-3.ensures.1 c.in-3.is refl

pub returns-in_ok-read_one-in-3-clause-read : goal.returns-in_ok-read_one-in-3-clause-read
unfolding request_payload_by
returns-in_ok-read_one-in-3-clause-read g c = is_held_at _ _ _ _ _ c.in_ok-read_one-in-3.ensures.read c.in-3.is refl refl

pub returns-in_err-read_one-in-4-clause-read : goal.returns-in_err-read_one-in-4-clause-read
returns-in_err-read_one-in-4-clause-read g c =
    is_failed_at _ _ _ _ _ _ c.in_err-read_one-in-4.ensures.read c.from_residual-in_err-read_one-in-4.ensures.1 c.in-4.is refl

pub returns-in_ok-read_one-in-4-clause-read : goal.returns-in_ok-read_one-in-4-clause-read
unfolding request_payload_by
returns-in_ok-read_one-in-4-clause-read g c = is_held_at _ _ _ _ _ c.in_ok-read_one-in-4.ensures.read c.in-4.is refl refl

pub returns-in_err-read_one-in-5-clause-read : goal.returns-in_err-read_one-in-5-clause-read
returns-in_err-read_one-in-5-clause-read g c =
    is_failed_at _ _ _ _ _ _ c.in_err-read_one-in-5.ensures.read c.from_residual-in_err-read_one-in-5.ensures.1 c.in-5.is refl

pub returns-in_ok-read_one-in-5-clause-read : goal.returns-in_ok-read_one-in-5-clause-read
unfolding request_payload_by
returns-in_ok-read_one-in-5-clause-read g c = is_held_at _ _ _ _ _ c.in_ok-read_one-in-5.ensures.read c.in-5.is refl refl

pub returns-in_err-read_one-in-6-clause-read : goal.returns-in_err-read_one-in-6-clause-read
returns-in_err-read_one-in-6-clause-read g c =
    is_failed_at _ _ _ _ _ _ c.in_err-read_one-in-6.ensures.read c.from_residual-in_err-read_one-in-6.ensures.1 c.in-6.is refl

pub returns-in_ok-read_one-in-6-clause-read : goal.returns-in_ok-read_one-in-6-clause-read
unfolding request_payload_by
returns-in_ok-read_one-in-6-clause-read g c = is_held_at _ _ _ _ _ c.in_ok-read_one-in-6.ensures.read c.in-6.is refl refl

pub returns-in_err-read_one-in-7-clause-read : goal.returns-in_err-read_one-in-7-clause-read
returns-in_err-read_one-in-7-clause-read g c =
    is_failed_at _ _ _ _ _ _ c.in_err-read_one-in-7.ensures.read c.from_residual-in_err-read_one-in-7.ensures.1 c.in-7.is refl

pub returns-in_ok-read_one-in-7-clause-read : goal.returns-in_ok-read_one-in-7-clause-read
unfolding request_payload_by
returns-in_ok-read_one-in-7-clause-read g c = is_held_at _ _ _ _ _ c.in_ok-read_one-in-7.ensures.read c.in-7.is refl refl

pub returns-in_err-read_one-in-8-clause-read : goal.returns-in_err-read_one-in-8-clause-read
returns-in_err-read_one-in-8-clause-read g c =
    is_failed_at _ _ _ _ _ _ c.in_err-read_one-in-8.ensures.read c.from_residual-in_err-read_one-in-8.ensures.1 c.in-8.is refl

pub returns-in_ok-read_one-in-8-clause-read : goal.returns-in_ok-read_one-in-8-clause-read
unfolding request_payload_by
returns-in_ok-read_one-in-8-clause-read g c = is_held_at _ _ _ _ _ c.in_ok-read_one-in-8.ensures.read c.in-8.is refl refl

pub returns-in_err-read_one-in-9-clause-read : goal.returns-in_err-read_one-in-9-clause-read
returns-in_err-read_one-in-9-clause-read g c =
    is_failed_at _ _ _ _ _ _ c.in_err-read_one-in-9.ensures.read c.from_residual-in_err-read_one-in-9.ensures.1 c.in-9.is refl

pub returns-in_ok-read_one-in-9-clause-read : goal.returns-in_ok-read_one-in-9-clause-read
unfolding request_payload_by
returns-in_ok-read_one-in-9-clause-read g c = is_held_at _ _ _ _ _ c.in_ok-read_one-in-9.ensures.read c.in-9.is refl refl

pub returns-in_err-read_one-in-10-clause-read : goal.returns-in_err-read_one-in-10-clause-read
returns-in_err-read_one-in-10-clause-read g c =
    is_failed_at _ _ _ _ _ _ c.in_err-read_one-in-10.ensures.read c.from_residual-in_err-read_one-in-10.ensures.1 c.in-10.is refl

pub returns-in_ok-read_one-in-10-clause-read : goal.returns-in_ok-read_one-in-10-clause-read
unfolding request_payload_by
returns-in_ok-read_one-in-10-clause-read g c = is_held_at _ _ _ _ _ c.in_ok-read_one-in-10.ensures.read c.in-10.is refl refl

pub returns-in_err-read_one-in-11-clause-read : goal.returns-in_err-read_one-in-11-clause-read
returns-in_err-read_one-in-11-clause-read g c =
    is_failed_at _ _ _ _ _ _ c.in_err-read_one-in-11.ensures.read c.from_residual-in_err-read_one-in-11.ensures.1 c.in-11.is refl

pub returns-in_ok-read_one-in-11-clause-read : goal.returns-in_ok-read_one-in-11-clause-read
unfolding request_payload_by
returns-in_ok-read_one-in-11-clause-read g c = is_held_at _ _ _ _ _ c.in_ok-read_one-in-11.ensures.read c.in-11.is refl refl

pub returns-in_err-read_one-in-12-clause-read : goal.returns-in_err-read_one-in-12-clause-read
returns-in_err-read_one-in-12-clause-read g c =
    is_failed_at _ _ _ _ _ _ c.in_err-read_one-in-12.ensures.read c.from_residual-in_err-read_one-in-12.ensures.1 c.in-12.is refl

pub returns-in_ok-read_one-in-12-clause-read : goal.returns-in_ok-read_one-in-12-clause-read
unfolding request_payload_by
returns-in_ok-read_one-in-12-clause-read g c = is_held_at _ _ _ _ _ c.in_ok-read_one-in-12.ensures.read c.in-12.is refl refl

pub returns-in_err-read_one-in-13-clause-read : goal.returns-in_err-read_one-in-13-clause-read
returns-in_err-read_one-in-13-clause-read g c =
    is_failed_at _ _ _ _ _ _ c.in_err-read_one-in-13.ensures.read c.from_residual-in_err-read_one-in-13.ensures.1 c.in-13.is refl

pub returns-in_ok-read_one-in-13-clause-read : goal.returns-in_ok-read_one-in-13-clause-read
unfolding request_payload_by
returns-in_ok-read_one-in-13-clause-read g c = is_held_at _ _ _ _ _ c.in_ok-read_one-in-13.ensures.read c.in-13.is refl refl

pub returns-in_err-read_one-in-14-clause-read : goal.returns-in_err-read_one-in-14-clause-read
returns-in_err-read_one-in-14-clause-read g c =
    is_failed_at _ _ _ _ _ _ c.in_err-read_one-in-14.ensures.read c.from_residual-in_err-read_one-in-14.ensures.1 c.in-14.is refl

pub returns-in_ok-read_one-in-14-clause-read : goal.returns-in_ok-read_one-in-14-clause-read
unfolding request_payload_by
returns-in_ok-read_one-in-14-clause-read g c = is_held_at _ _ _ _ _ c.in_ok-read_one-in-14.ensures.read c.in-14.is refl refl

pub returns-in_err-read_one-in-15-clause-read : goal.returns-in_err-read_one-in-15-clause-read
returns-in_err-read_one-in-15-clause-read g c =
    is_failed_at _ _ _ _ _ _ c.in_err-read_one-in-15.ensures.read c.from_residual-in_err-read_one-in-15.ensures.1 c.in-15.is refl

pub returns-in_ok-read_one-in-15-clause-read : goal.returns-in_ok-read_one-in-15-clause-read
unfolding request_payload_by
returns-in_ok-read_one-in-15-clause-read g c = is_held_at _ _ _ _ _ c.in_ok-read_one-in-15.ensures.read c.in-15.is refl refl

pub returns-in_err-read_one-in-16-clause-read : goal.returns-in_err-read_one-in-16-clause-read
returns-in_err-read_one-in-16-clause-read g c =
    is_failed_at _ _ _ _ _ _ c.in_err-read_one-in-16.ensures.read c.from_residual-in_err-read_one-in-16.ensures.1 c.in-16.is refl

pub returns-in_ok-read_one-in-16-clause-read : goal.returns-in_ok-read_one-in-16-clause-read
unfolding request_payload_by
returns-in_ok-read_one-in-16-clause-read g c = is_held_at _ _ _ _ _ c.in_ok-read_one-in-16.ensures.read c.in-16.is refl refl

pub returns-in_err-read_one-in-17-clause-read : goal.returns-in_err-read_one-in-17-clause-read
returns-in_err-read_one-in-17-clause-read g c =
    is_failed_at _ _ _ _ _ _ c.in_err-read_one-in-17.ensures.read c.from_residual-in_err-read_one-in-17.ensures.1 c.in-17.is refl

pub returns-in_ok-read_one-in-17-clause-read : goal.returns-in_ok-read_one-in-17-clause-read
unfolding request_payload_by
returns-in_ok-read_one-in-17-clause-read g c = is_held_at _ _ _ _ _ c.in_ok-read_one-in-17.ensures.read c.in-17.is refl refl

pub returns-in_err-read_one-in-18-clause-read : goal.returns-in_err-read_one-in-18-clause-read
returns-in_err-read_one-in-18-clause-read g c =
    is_failed_at _ _ _ _ _ _ c.in_err-read_one-in-18.ensures.read c.from_residual-in_err-read_one-in-18.ensures.1 c.in-18.is refl

pub returns-in_ok-read_one-in-18-clause-read : goal.returns-in_ok-read_one-in-18-clause-read
unfolding request_payload_by
returns-in_ok-read_one-in-18-clause-read g c = is_held_at _ _ _ _ _ c.in_ok-read_one-in-18.ensures.read c.in-18.is refl refl

pub returns-in_err-read_one-in-19-clause-read : goal.returns-in_err-read_one-in-19-clause-read
returns-in_err-read_one-in-19-clause-read g c =
    is_failed_at _ _ _ _ _ _ c.in_err-read_one-in-19.ensures.read c.from_residual-in_err-read_one-in-19.ensures.1 c.in-19.is refl

pub returns-in_ok-read_one-in-19-clause-read : goal.returns-in_ok-read_one-in-19-clause-read
unfolding request_payload_by
returns-in_ok-read_one-in-19-clause-read g c = is_held_at _ _ _ _ _ c.in_ok-read_one-in-19.ensures.read c.in-19.is refl refl

pub returns-in_err-read_one-in-20-clause-read : goal.returns-in_err-read_one-in-20-clause-read
returns-in_err-read_one-in-20-clause-read g c =
    is_failed_at _ _ _ _ _ _ c.in_err-read_one-in-20.ensures.read c.from_residual-in_err-read_one-in-20.ensures.1 c.in-20.is refl

pub returns-in_ok-read_one-in-20-clause-read : goal.returns-in_ok-read_one-in-20-clause-read
unfolding request_payload_by
returns-in_ok-read_one-in-20-clause-read g c = is_held_at _ _ _ _ _ c.in_ok-read_one-in-20.ensures.read c.in-20.is refl refl

pub returns-in_err-read_one-in-21-clause-read : goal.returns-in_err-read_one-in-21-clause-read
returns-in_err-read_one-in-21-clause-read g c =
    is_failed_at _ _ _ _ _ _ c.in_err-read_one-in-21.ensures.read c.from_residual-in_err-read_one-in-21.ensures.1 c.in-21.is refl

pub returns-in_ok-read_one-in-21-clause-read : goal.returns-in_ok-read_one-in-21-clause-read
unfolding request_payload_by
returns-in_ok-read_one-in-21-clause-read g c = is_held_at _ _ _ _ _ c.in_ok-read_one-in-21.ensures.read c.in-21.is refl refl

pub returns-in_err-read_one-in-22-clause-read : goal.returns-in_err-read_one-in-22-clause-read
returns-in_err-read_one-in-22-clause-read g c =
    is_failed_at _ _ _ _ _ _ c.in_err-read_one-in-22.ensures.read c.from_residual-in_err-read_one-in-22.ensures.1 c.in-22.is refl

pub returns-in_ok-read_one-in-22-clause-read : goal.returns-in_ok-read_one-in-22-clause-read
unfolding request_payload_by
returns-in_ok-read_one-in-22-clause-read g c = is_held_at _ _ _ _ _ c.in_ok-read_one-in-22.ensures.read c.in-22.is refl refl

pub returns-in_err-read_one-in-23-clause-read : goal.returns-in_err-read_one-in-23-clause-read
returns-in_err-read_one-in-23-clause-read g c =
    is_failed_at _ _ _ _ _ _ c.in_err-read_one-in-23.ensures.read c.from_residual-in_err-read_one-in-23.ensures.1 c.in-23.is refl

pub returns-in_ok-read_one-in-23-clause-read : goal.returns-in_ok-read_one-in-23-clause-read
unfolding request_payload_by
returns-in_ok-read_one-in-23-clause-read g c = is_held_at _ _ _ _ _ c.in_ok-read_one-in-23.ensures.read c.in-23.is refl refl

pub returns-in_err-read_one-in-24-clause-read : goal.returns-in_err-read_one-in-24-clause-read
returns-in_err-read_one-in-24-clause-read g c =
    is_failed_at _ _ _ _ _ _ c.in_err-read_one-in-24.ensures.read c.from_residual-in_err-read_one-in-24.ensures.1 c.in-24.is refl

pub returns-in_ok-read_one-in-24-clause-read : goal.returns-in_ok-read_one-in-24-clause-read
unfolding request_payload_by
returns-in_ok-read_one-in-24-clause-read g c = is_held_at _ _ _ _ _ c.in_ok-read_one-in-24.ensures.read c.in-24.is refl refl

pub returns-in_err-read_one-in-25-clause-read : goal.returns-in_err-read_one-in-25-clause-read
returns-in_err-read_one-in-25-clause-read g c =
    is_failed_at _ _ _ _ _ _ c.in_err-read_one-in-25.ensures.read c.from_residual-in_err-read_one-in-25.ensures.1 c.in-25.is refl

pub returns-in_ok-read_one-in-25-clause-read : goal.returns-in_ok-read_one-in-25-clause-read
unfolding request_payload_by
returns-in_ok-read_one-in-25-clause-read g c = is_held_at _ _ _ _ _ c.in_ok-read_one-in-25.ensures.read c.in-25.is refl refl

pub returns-in_err-read_one-in-26-clause-read : goal.returns-in_err-read_one-in-26-clause-read
returns-in_err-read_one-in-26-clause-read g c =
    is_failed_at _ _ _ _ _ _ c.in_err-read_one-in-26.ensures.read c.from_residual-in_err-read_one-in-26.ensures.1 c.in-26.is refl

pub returns-in_ok-read_one-in-26-clause-read : goal.returns-in_ok-read_one-in-26-clause-read
unfolding request_payload_by
returns-in_ok-read_one-in-26-clause-read g c = is_held_at _ _ _ _ _ c.in_ok-read_one-in-26.ensures.read c.in-26.is refl refl

pub returns-in_err-read_one-in-27-clause-read : goal.returns-in_err-read_one-in-27-clause-read
returns-in_err-read_one-in-27-clause-read g c =
    is_failed_at _ _ _ _ _ _ c.in_err-read_one-in-27.ensures.read c.from_residual-in_err-read_one-in-27.ensures.1 c.in-27.is refl

pub returns-in_ok-read_one-in-27-clause-read : goal.returns-in_ok-read_one-in-27-clause-read
unfolding request_payload_by
returns-in_ok-read_one-in-27-clause-read g c = is_held_at _ _ _ _ _ c.in_ok-read_one-in-27.ensures.read c.in-27.is refl refl

pub returns-in_err-read_one-in-28-clause-read : goal.returns-in_err-read_one-in-28-clause-read
returns-in_err-read_one-in-28-clause-read g c =
    is_failed_at _ _ _ _ _ _ c.in_err-read_one-in-28.ensures.read c.from_residual-in_err-read_one-in-28.ensures.1 c.in-28.is refl

pub returns-in_ok-read_one-in-28-clause-read : goal.returns-in_ok-read_one-in-28-clause-read
unfolding request_payload_by
returns-in_ok-read_one-in-28-clause-read g c = is_held_at _ _ _ _ _ c.in_ok-read_one-in-28.ensures.read c.in-28.is refl refl

pub returns-in_err-read_one-in-29-clause-read : goal.returns-in_err-read_one-in-29-clause-read
returns-in_err-read_one-in-29-clause-read g c =
    is_failed_at _ _ _ _ _ _ c.in_err-read_one-in-29.ensures.read c.from_residual-in_err-read_one-in-29.ensures.1 c.in-29.is refl

pub returns-in_ok-read_one-in-29-clause-read : goal.returns-in_ok-read_one-in-29-clause-read
unfolding request_payload_by
returns-in_ok-read_one-in-29-clause-read g c = is_held_at _ _ _ _ _ c.in_ok-read_one-in-29.ensures.read c.in-29.is refl refl

pub returns-in_err-read_one-in-30-clause-read : goal.returns-in_err-read_one-in-30-clause-read
returns-in_err-read_one-in-30-clause-read g c =
    is_failed_at _ _ _ _ _ _ c.in_err-read_one-in-30.ensures.read c.from_residual-in_err-read_one-in-30.ensures.1 c.in-30.is refl

pub returns-in_ok-read_one-in-30-clause-read : goal.returns-in_ok-read_one-in-30-clause-read
unfolding request_payload_by
returns-in_ok-read_one-in-30-clause-read g c = is_held_at _ _ _ _ _ c.in_ok-read_one-in-30.ensures.read c.in-30.is refl refl

pub returns-in_err-read_one-in-31-clause-read : goal.returns-in_err-read_one-in-31-clause-read
returns-in_err-read_one-in-31-clause-read g c =
    is_failed_at _ _ _ _ _ _ c.in_err-read_one-in-31.ensures.read c.from_residual-in_err-read_one-in-31.ensures.1 c.in-31.is refl

pub returns-in_ok-read_one-in-31-clause-read : goal.returns-in_ok-read_one-in-31-clause-read
unfolding request_payload_by
returns-in_ok-read_one-in-31-clause-read g c = is_held_at _ _ _ _ _ c.in_ok-read_one-in-31.ensures.read c.in-31.is refl refl

pub returns-in_err-read_one-in-32-clause-read : goal.returns-in_err-read_one-in-32-clause-read
returns-in_err-read_one-in-32-clause-read g c =
    is_failed_at _ _ _ _ _ _ c.in_err-read_one-in-32.ensures.read c.from_residual-in_err-read_one-in-32.ensures.1 c.in-32.is refl

pub returns-in_ok-read_one-in-32-clause-read : goal.returns-in_ok-read_one-in-32-clause-read
unfolding request_payload_by
returns-in_ok-read_one-in-32-clause-read g c = is_held_at _ _ _ _ _ c.in_ok-read_one-in-32.ensures.read c.in-32.is refl refl

pub returns-in_err-read_one-in-33-clause-read : goal.returns-in_err-read_one-in-33-clause-read
returns-in_err-read_one-in-33-clause-read g c =
    is_failed_at _ _ _ _ _ _ c.in_err-read_one-in-33.ensures.read c.from_residual-in_err-read_one-in-33.ensures.1 c.in-33.is refl

pub returns-in_ok-read_one-in-33-clause-read : goal.returns-in_ok-read_one-in-33-clause-read
unfolding request_payload_by
returns-in_ok-read_one-in-33-clause-read g c = is_held_at _ _ _ _ _ c.in_ok-read_one-in-33.ensures.read c.in-33.is refl refl

pub returns-in_err-read_one-in-34-clause-read : goal.returns-in_err-read_one-in-34-clause-read
returns-in_err-read_one-in-34-clause-read g c =
    is_failed_at _ _ _ _ _ _ c.in_err-read_one-in-34.ensures.read c.from_residual-in_err-read_one-in-34.ensures.1 c.in-34.is refl

pub returns-in_ok-read_one-in-34-clause-read : goal.returns-in_ok-read_one-in-34-clause-read
unfolding request_payload_by
returns-in_ok-read_one-in-34-clause-read g c = is_held_at _ _ _ _ _ c.in_ok-read_one-in-34.ensures.read c.in-34.is refl refl

pub returns-in_err-read_one-in-35-clause-read : goal.returns-in_err-read_one-in-35-clause-read
returns-in_err-read_one-in-35-clause-read g c =
    is_failed_at _ _ _ _ _ _ c.in_err-read_one-in-35.ensures.read c.from_residual-in_err-read_one-in-35.ensures.1 c.in-35.is refl

pub returns-in_ok-read_one-in-35-clause-read : goal.returns-in_ok-read_one-in-35-clause-read
unfolding request_payload_by
returns-in_ok-read_one-in-35-clause-read g c = is_held_at _ _ _ _ _ c.in_ok-read_one-in-35.ensures.read c.in-35.is refl refl

pub returns-in_err-read_one-in-36-clause-read : goal.returns-in_err-read_one-in-36-clause-read
returns-in_err-read_one-in-36-clause-read g c =
    is_failed_at _ _ _ _ _ _ c.in_err-read_one-in-36.ensures.read c.from_residual-in_err-read_one-in-36.ensures.1 c.in-36.is refl

pub returns-in_ok-read_one-in-36-clause-read : goal.returns-in_ok-read_one-in-36-clause-read
unfolding request_payload_by
returns-in_ok-read_one-in-36-clause-read g c = is_held_at _ _ _ _ _ c.in_ok-read_one-in-36.ensures.read c.in-36.is refl refl
