use Rattle.std.proofs.Common.{◌≡◌, ◌∙◌, inl, inr, List, ℕ, None, refl, ap, sym}
use Rattle.std.proofs.lemmas.Result.{err_from_is_err_and}
use Rattle.kmip_ttlv_types.specs.Held.{held}
use Rattle.kmip_ttlv_types.proofs.Held.{rests}
use Rattle.ttlv_run.specs.{Inputs.encoding_of, Inputs.port_of, Runs.streams, Streaming.window_bytes, Texts.names_of, Traffic.Took}
use Rattle.ttlv_run.proofs.{Inputs.begin_fails, TrafficTexts.decides_by, TrafficTexts.by_packets, TrafficTexts.by_messages, TrafficTexts.came_first}
use Rattle.ttlv_run.proofs.run.print_asked.Goals as goal

-- reading failed within the first bytes
pub returns-in_err-ended : goal.returns-in_err-ended
returns-in_err-ended g c =
    let y = err_from_is_err_and c.from_residual.result c.from_residual.ensures.1 in
    let fails = c.in_err-ended.ensures in
    rw (y.1, y.2) (
      inl (
        inr (rests (held g.W.Sink.emitted g.W.Sink.room c.args.output.now)),
        begin_fails (names_of c.args.names.now) c.args.job.now _ (held g.W.Sink.emitted g.W.Sink.room c.args.output.now)
            c.new-window.ensures fails.err _ fails.why,
      ),
      refl,
    )

pub returns-in-Some : goal.returns-in-Some
returns-in-Some g c =
    let taken = came_first c.new-window.ensures c.in_ok-ended.ensures.ok.yields in
    by_packets _ _ _ _ _ c.respond_packets.result (c.respond_packets.ensures (g.R.Source.left c.args.input.now) taken)

pub returns-in-None : goal.returns-in-None
returns-in-None g c =
    let taken = came_first c.new-window.ensures c.in_ok-ended.ensures.ok.yields in
    let e = c.args.job.now.encoding in
    let none : port_of (encoding_of e (window_bytes c.read_front.new.window)) ≡ None =
    ap (λ (t : List ℕ). port_of (encoding_of e t)) (sym c.buffered.ensures.are) ∙ ap port_of (sym c.encoding_of.ensures) ∙ sym c.port_of.ensures
    ∙ c.in-None.is in
    let s = streams g.R.Source.can_fail (g.R.Source.left c.args.input.now) (g.R.Source.left c.print_alone.new.input)
    (held g.W.Sink.emitted g.W.Sink.room c.args.output.now) (held g.W.Sink.emitted g.W.Sink.room c.print_alone.new.output) in
    let now = window_bytes c.read_front.new.window in
    let decides = decides_by _ e (g.R.Source.left c.read_front.new.input) now c.in_ok-ended.ensures.ok.enough c.in_ok-ended.ensures.ok.at_end in
    let took : Took e s None =
    record { front = window_bytes c.read_front.new.window; left = g.R.Source.left c.read_front.new.input; taken = taken; decides = decides; port_is = none } in
    by_messages _ _ s _ _ c.print_alone.result took (c.print_alone.ensures (g.R.Source.left c.args.input.now) taken)
