use Rattle.std.proofs.Common.{ap}
use Rattle.std.proofs.lemmas.Bool.{false≢true}
use Rattle.std.specs.Prelude.{option_map, vec_items}
use Rattle.kmip_server.proofs.Fitting.{unfit_answer}
use Rattle.kmip_server.proofs.items.fitting.Goals as goal

pub returns : goal.returns
returns g c =
    let whole = c.succeeded-answer.ensures in
    unfit_answer g.D.Codec.IsSound _ _ _ c.succeeded-answer.result c.new-refusal.result whole.operation
    (ap (λ id. option_map vec_items id) whole.identifier) whole.says (λ sound. false≢true (c.if-is_sound.ensures.1 sound)) c.new-refusal.ensures.reason _
    c.refused.ensures.operation c.refused.ensures.identifier c.refused.ensures.says
