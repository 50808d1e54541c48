use Rattle.std.proofs.Common.{◌∙◌, [], Err, None, Ok, Some, ap, refl}
use Rattle.std.specs.Prelude.{is_some}
use Rattle.kmip_ttlv_de.specs.Settings.{Settings}
use Rattle.kmip_server.proofs.Led.{by_limit, led_on, stops_last}
use Rattle.kmip_server.proofs.serve.serve.Goals as goal

pub messages-init : goal.messages-init
messages-init g c = record {
  limit = ap (λ (s : Settings). s.limit) c.with_read_buf-config.ensures.settings ∙ ap (λ (s : Settings). s.limit) c.with_max_bytes.ensures.settings;
  buffer = ap (λ (s : Settings). is_some s.reused) c.with_read_buf-config.ensures.settings;
  led = record { answered = []; leads = refl };
}

pub returns : goal.returns
returns g c = record { answered = c.messages.invariant.led.answered; here = _; leads = c.messages.invariant.led.leads; last_is = refl }

pub returns-in-Ok-Some : goal.returns-in-Ok-Some
returns-in-Ok-Some g c = record {
  answered = c.messages.invariant.led.answered;
  here = _;
  leads = c.messages.invariant.led.leads;
  last_is = by_limit _ _ _ _ (Some c.args.limits.request) _ _ (Ok (Some c.in-Ok-Some.end)) _ c.messages.invariant.limit
      (ap (λ end. Ok end) c.in-Ok-Some.field-0-is) c.in-Ok-Some.ensures.handles;
}

pub returns-in-Err : goal.returns-in-Err
returns-in-Err g c = record {
  answered = c.messages.invariant.led.answered;
  here = _;
  leads = c.messages.invariant.led.leads;
  last_is = stops_last _ _ _ _ _ _ _
      (by_limit _ _ _ _ (Some c.args.limits.request) _ _ (Err c.in-Err.error) _ c.messages.invariant.limit refl c.in-Err.ensures.handles);
}

pub messages-preserved : goal.messages-preserved
messages-preserved g c = record {
  limit = c.serve_one.ensures.config.limit ∙ c.messages.invariant.limit;
  buffer = c.serve_one.ensures.config.buffer ∙ c.messages.invariant.buffer;
  led = led_on _ _ _ _ c.messages.invariant.led (by_limit _ _ _ _ (Some c.args.limits.request) _ _ (Ok None) _ c.messages.invariant.limit
      (ap (λ end. Ok end) c.in-Ok-None.field-0-is) c.in-Ok-None.ensures.handles);
}
