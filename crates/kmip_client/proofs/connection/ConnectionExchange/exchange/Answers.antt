use Rattle.kmip_client.proofs.Exchanging.{answers_of, exchanged}
use Rattle.kmip_client.proofs.connection.ConnectionExchange.exchange.Goals as goal

pub returns-in-Ok-clause-exchanges : goal.returns-in-Ok-clause-exchanges
returns-in-Ok-clause-exchanges g c =
    exchanged _ _ _ c.args.request.now c.in-Ok.response c.judged.result c.in-Ok.ensures.0 c.in-Ok.ensures.1 c.judged.ensures

pub returns-in-Ok-clause-answers : goal.returns-in-Ok-clause-answers
returns-in-Ok-clause-answers g c = answers_of c.args.request.now c.in-Ok.response c.judged.result c.judged.ensures
