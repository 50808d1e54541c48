-- Written by codegen from types.table: change that, and run codegen/codegen.
-- What it answers, by what it holds.
use Rattle.std.specs.Prelude.{OnOk}
use Rattle.kmip_ttlv_kinds.specs.Choices.{told_as}
use Rattle.kmip_attributes.specs.Choices.{attribute_value_by}
use Rattle.kmip_attributes.proofs.attribute.AttributeValueChoice.tell_held.Goals as goal

pub returns-in-ObjectType-clause-told : goal.returns-in-ObjectType-clause-told
unfolding attribute_value_by
returns-in-ObjectType-clause-told g c = told_as (attribute_value_by _) (λ t. OnOk c.item.result (g.W.Walk.steps.Takes c.args.state.now t c.item.new.state)) c.in-ObjectType.is c.item.ensures.told

pub returns-in-CryptographicAlgorithm-clause-told : goal.returns-in-CryptographicAlgorithm-clause-told
unfolding attribute_value_by
returns-in-CryptographicAlgorithm-clause-told g c = told_as (attribute_value_by _) (λ t. OnOk c.item-in-CryptographicAlgorithm.result (g.W.Walk.steps.Takes c.args.state.now t c.item-in-CryptographicAlgorithm.new.state)) c.in-CryptographicAlgorithm.is c.item-in-CryptographicAlgorithm.ensures.told

pub returns-in-CertificateType-clause-told : goal.returns-in-CertificateType-clause-told
unfolding attribute_value_by
returns-in-CertificateType-clause-told g c = told_as (attribute_value_by _) (λ t. OnOk c.item-in-CertificateType.result (g.W.Walk.steps.Takes c.args.state.now t c.item-in-CertificateType.new.state)) c.in-CertificateType.is c.item-in-CertificateType.ensures.told

pub returns-in-State-clause-told : goal.returns-in-State-clause-told
unfolding attribute_value_by
returns-in-State-clause-told g c = told_as (attribute_value_by _) (λ t. OnOk c.item-in-State.result (g.W.Walk.steps.Takes c.args.state.now t c.item-in-State.new.state)) c.in-State.is c.item-in-State.ensures.told

pub returns-in-Integer-clause-told : goal.returns-in-Integer-clause-told
unfolding attribute_value_by
returns-in-Integer-clause-told g c = told_as (attribute_value_by _) (λ t. OnOk c.item-in-Integer.result (g.W.Walk.steps.Takes c.args.state.now t c.item-in-Integer.new.state)) c.in-Integer.is c.item-in-Integer.ensures.told

pub returns-in-LongInteger-clause-told : goal.returns-in-LongInteger-clause-told
unfolding attribute_value_by
returns-in-LongInteger-clause-told g c = told_as (attribute_value_by _) (λ t. OnOk c.item-in-LongInteger.result (g.W.Walk.steps.Takes c.args.state.now t c.item-in-LongInteger.new.state)) c.in-LongInteger.is c.item-in-LongInteger.ensures.told

pub returns-in-BigInteger-clause-told : goal.returns-in-BigInteger-clause-told
unfolding attribute_value_by
returns-in-BigInteger-clause-told g c = told_as (attribute_value_by _) (λ t. OnOk c.item-in-BigInteger.result (g.W.Walk.steps.Takes c.args.state.now t c.item-in-BigInteger.new.state)) c.in-BigInteger.is c.item-in-BigInteger.ensures.told

pub returns-in-Enumeration-clause-told : goal.returns-in-Enumeration-clause-told
unfolding attribute_value_by
returns-in-Enumeration-clause-told g c = told_as (attribute_value_by _) (λ t. OnOk c.item-in-Enumeration.result (g.W.Walk.steps.Takes c.args.state.now t c.item-in-Enumeration.new.state)) c.in-Enumeration.is c.item-in-Enumeration.ensures.told

pub returns-in-Boolean-clause-told : goal.returns-in-Boolean-clause-told
unfolding attribute_value_by
returns-in-Boolean-clause-told g c = told_as (attribute_value_by _) (λ t. OnOk c.item-in-Boolean.result (g.W.Walk.steps.Takes c.args.state.now t c.item-in-Boolean.new.state)) c.in-Boolean.is c.item-in-Boolean.ensures.told

pub returns-in-TextString-clause-told : goal.returns-in-TextString-clause-told
unfolding attribute_value_by
returns-in-TextString-clause-told g c = told_as (attribute_value_by _) (λ t. OnOk c.item-in-TextString.result (g.W.Walk.steps.Takes c.args.state.now t c.item-in-TextString.new.state)) c.in-TextString.is c.item-in-TextString.ensures.told

pub returns-in-ByteString-clause-told : goal.returns-in-ByteString-clause-told
unfolding attribute_value_by
returns-in-ByteString-clause-told g c = told_as (attribute_value_by _) (λ t. OnOk c.item-in-ByteString.result (g.W.Walk.steps.Takes c.args.state.now t c.item-in-ByteString.new.state)) c.in-ByteString.is c.item-in-ByteString.ensures.told

pub returns-in-DateTime-clause-told : goal.returns-in-DateTime-clause-told
unfolding attribute_value_by
returns-in-DateTime-clause-told g c = told_as (attribute_value_by _) (λ t. OnOk c.item-in-DateTime.result (g.W.Walk.steps.Takes c.args.state.now t c.item-in-DateTime.new.state)) c.in-DateTime.is c.item-in-DateTime.ensures.told

pub returns-in-Interval-clause-told : goal.returns-in-Interval-clause-told
unfolding attribute_value_by
returns-in-Interval-clause-told g c = told_as (attribute_value_by _) (λ t. OnOk c.item-in-Interval.result (g.W.Walk.steps.Takes c.args.state.now t c.item-in-Interval.new.state)) c.in-Interval.is c.item-in-Interval.ensures.told

pub returns-in-Structure-clause-told : goal.returns-in-Structure-clause-told
unfolding attribute_value_by
returns-in-Structure-clause-told g c = told_as (attribute_value_by _) (λ t. OnOk c.tell_held.result (g.W.Walk.steps.Takes c.args.state.now t c.tell_held.new.state)) c.in-Structure.is c.tell_held.ensures.told
