use Rattle.std.proofs.Common.{inl, inr}
use Rattle.kmip_client.proofs.Asked.{by_answer, chosen, one_answer, the_answer}
use Rattle.kmip_client.proofs.client.Client.ask.Goals as goal

pub the_only-requires : goal.the_only-requires
the_only-requires g c =
    one_answer c.in_ok-request.ensures.item c.in-Ok.response.items.items c.in_ok-request.ensures.items c.in-Ok.ensures.answers

pub returns-in-Ok-clause-asks : goal.returns-in-Ok-clause-asks
returns-in-Ok-clause-asks g c = by_answer _ _ _ c.done.result (record {
  request = c.in_ok-request.request;
  is_request = c.in_ok-request.ensures;
  response = c.in-Ok.response;
  exchanged = c.in-Ok.ensures.exchanges;
  item = c.the_only.result;
  items = c.the_only.ensures;
  says = c.done.ensures;
})

pub returns-in-Ok-clause-chosen : goal.returns-in-Ok-clause-chosen
returns-in-Ok-clause-chosen g c =
    let answer = the_answer c.in_ok-request.ensures.item c.the_only.result c.in_ok-request.ensures.items c.the_only.ensures c.in-Ok.ensures.answers in
    chosen c.args.operation.number c.in_ok-request.ensures.item c.the_only.result c.done.result c.done.ensures answer c.in_ok-request.ensures.operation_is

pub returns-clause-asks : goal.returns-clause-asks
returns-clause-asks g c = inr (inl (record {
  request = c.in_ok-request.request;
  is_request = c.in_ok-request.ensures;
  exchanged = c.in-Err.ensures.exchanges;
}))
