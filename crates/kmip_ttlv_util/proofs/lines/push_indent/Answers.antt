use Rattle.std.proofs.Common.{◌≡◌, suc, ◌+◌, ◌-◌, ◌++◌, ◌∷◌, [], ◌∙◌, sym, subst, arith}
use Rattle.kmip_ttlv_util.specs.Lines.{indent}
use Rattle.kmip_ttlv_util.proofs.Fronts.{indent_more, indent_parts, spaces_front, indent_ascii}
use Rattle.std.specs.Str.{IsUtf8}
use Rattle.std.proofs.lemmas.Str.{IsUtf8-from_ascii}
use Rattle.kmip_ttlv_util.proofs.Saying.{err_front, begins_equal}
use Rattle.kmip_ttlv_util.proofs.lines.push_indent.Goals as goal

pub loop-init : goal.loop-init
loop-init g c = g.met.S.TextSink.adds_none c.args.out.now

pub loop-preserved : goal.loop-preserved
loop-preserved g c =
    let next : c.loop.counter + 1 ≡ suc c.loop.counter = omega arith in
    rw (next, indent_more) (g.met.S.TextSink.adds_both _ _ _ _ _ c.loop.invariant c.in_ok-push_str.ensures.ok)

pub from_utf8_unchecked-requires : goal.from_utf8_unchecked-requires
from_utf8_unchecked-requires g c = subst IsUtf8 (sym (spaces_front c.args.depth (omega arith))) (IsUtf8-from_ascii _ (indent_ascii c.args.depth))

pub returns-then-depth-le16 : goal.returns-then-depth-le16
returns-then-depth-le16 g c =
    let text = c.from_utf8_unchecked.ensures ∙ spaces_front c.args.depth (omega arith) in
    record { ok = rw (← text) c.push_str.ensures.ok; err = rw (← text) c.push_str.ensures.err }

pub returns-in_err-push_str-clause-err : goal.returns-in_err-push_str-clause-err
returns-in_err-push_str-clause-err g c =
    let rest = indent (c.args.depth - (c.loop.counter + 1)) in
    let whole : (indent c.loop.counter ++ (32 ∷ 32 ∷ [])) ++ rest ≡ indent c.args.depth = indent_parts c.loop.counter c.args.depth (omega arith) in
    err_front g.met.S.TextSink.breaks_first _ (g.met.S.TextSink.breaks_first _ _ _ rest
    (g.met.S.TextSink.breaks_second _ _ _ (indent c.loop.counter) (32 ∷ 32 ∷ []) c.loop.invariant c.in_err-push_str.ensures.err)) (begins_equal whole)
