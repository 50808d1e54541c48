use Rattle.std.proofs.Common.{◌≡◌, None, Some, true}
use Rattle.std.specs.Prelude.{is_some}
use Rattle.kmip_ttlv_de.specs.Settings.{settings_of}
use Rattle.kmip_server.specs.Items.{IsDone}
use Rattle.kmip_server.specs.Messages.{Replies}
use Rattle.kmip_server.specs.Replies.{Sends}
use Rattle.kmip_server.specs.Serving.{Turns}
use Rattle.kmip_server.proofs.Led.{IsLed}
use Rattle.kmip_server.proofs.serve.serve.Given as goal

-- the messages so far lead from the first to where the server is, and the settings stay
abbrev pub invariant-messages : goal.invariant-messages
invariant-messages g l =
    let codec = g.D.Codec in
    let handler = g.H.Handler in
    let source = g.S.Source in
    let written = g.W.Sink.emitted in
    let logged = g.L.Sink.emitted in
    record {
      limit : (settings_of l.config).limit ≡ Some l.limits.request;
      buffer : is_some (settings_of l.config).reused ≡ true;
      led : IsLed (λ old new. Turns codec.ReadsRequest (Sends codec.stated (Replies handler.Admits
          (IsDone handler.Does handler.declaration codec.ReadsItem) codec.IsSound
          codec.ReadsHeader handler.declaration l.limits.response) handler.declaration l.limits.response)
          source.can_fail (Some l.limits.request) old None new)
          record { left = source.left l.fn.reader; desk = record { handler = l.fn.handler; written = written l.fn.writer; logged = logged l.fn.log } }
          record { left = source.left l.reader; desk = record { handler = l.handler; written = written l.writer; logged = logged l.log } };
    }
