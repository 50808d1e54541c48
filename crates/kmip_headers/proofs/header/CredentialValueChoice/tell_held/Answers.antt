-- Written by codegen from types.table: change that, and run codegen/codegen.
-- What it answers, by what it holds.
use Rattle.std.specs.Prelude.{OnOk}
use Rattle.kmip_ttlv_kinds.specs.Choices.{told_as}
use Rattle.kmip_headers.specs.Choices.{credential_value_by}
use Rattle.kmip_headers.proofs.header.CredentialValueChoice.tell_held.Goals as goal

pub returns-in-UsernameAndPassword-clause-told : goal.returns-in-UsernameAndPassword-clause-told
unfolding credential_value_by
returns-in-UsernameAndPassword-clause-told g c = told_as (credential_value_by _) (λ t. OnOk c.item.result (g.W.Walk.steps.Takes c.args.state.now t c.item.new.state)) c.in-UsernameAndPassword.is c.item.ensures.told

pub returns-in-Device-clause-told : goal.returns-in-Device-clause-told
unfolding credential_value_by
returns-in-Device-clause-told g c = told_as (credential_value_by _) (λ t. OnOk c.item-in-Device.result (g.W.Walk.steps.Takes c.args.state.now t c.item-in-Device.new.state)) c.in-Device.is c.item-in-Device.ensures.told

pub returns-in-Other-clause-told : goal.returns-in-Other-clause-told
unfolding credential_value_by
returns-in-Other-clause-told g c = told_as (credential_value_by _) (λ t. OnOk c.item-in-Other.result (g.W.Walk.steps.Takes c.args.state.now t c.item-in-Other.new.state)) c.in-Other.is c.item-in-Other.ensures.told
