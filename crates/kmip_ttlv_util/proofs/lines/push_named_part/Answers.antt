use Rattle.std.proofs.Common.{◌++◌, ap, sym, ℕ, List, Option, Some}
use Rattle.std.specs.{Prelude.codes, Borrow.Bor, Option.option_map}
use Rattle.kmip_ttlv_util.specs.Lines.{indent, tag_named}
use Rattle.kmip_ttlv_util.proofs.Saying.{err_now, does_same, does_then}
use Rattle.kmip_ttlv_util.proofs.lines.push_named_part.Goals as goal

pub returns-in_err-push_str-clause-err : goal.returns-in_err-push_str-clause-err
returns-in_err-push_str-clause-err g c =
    err_now g.S.TextSink.adds g.S.TextSink.breaks _ _ _ _ (g.met.S.TextSink.breaks_second _ _ _ _ _ (c.in_ok-push_indent.ensures.ok)
    (g.met.S.TextSink.breaks_first _ _ (codes "Tag: ") _ (c.in_err-push_str.ensures.err)))

pub returns : goal.returns
returns g c =
    let text = ap (λ (o : Option (Bor (List ℕ))). indent c.args.depth ++ (codes "Tag: " ++ tag_named c.args.least (option_map (λ s. s.now) o) c.args.tag))
    (sym c.in-Some.is) in
    let d = does_then g.met.S.TextSink.adds_both g.met.S.TextSink.breaks_second c.push_named.result _ c.in_ok-push_indent.ensures.ok
    (does_then g.met.S.TextSink.adds_both g.met.S.TextSink.breaks_second _ _ c.in_ok-push_str.ensures.ok
    (does_same record { ok = c.push_named.ensures.ok; err = c.push_named.ensures.err }
    (ap (tag_named c.args.least (Some c.in-Some.name.now)) c.deref-2.ensures))) in
    record { ok = rw (← text) d.ok; err = rw (← text) d.err }
