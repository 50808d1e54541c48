-- What it tells is told of the header that its fields are.
use Rattle.std.specs.Prelude.{OnOk}
use Rattle.create_destroy.specs.Headers.{told_alike}
use Rattle.create_destroy.proofs.messages.Request.tell_own.Goals as goal

pub returns-clause-told : goal.returns-clause-told
returns-clause-told g c =
    told_alike _ _ (λ t. OnOk c.tell_two.result (g.W.Walk.steps.Takes c.args.state.now t c.tell_two.new.state)) c.args.self.now.items c.header.ensures
    c.tell_two.ensures.told
