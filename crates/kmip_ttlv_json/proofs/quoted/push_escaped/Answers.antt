use Rattle.std.proofs.Common.{◌+◌, ◌++◌, List, ℕ, length, drop, flat_map, sym, ap, ◌∙◌, map-id}
use Rattle.std.specs.Str.{chars, is_utf8}
use Rattle.std.proofs.lemmas.{Str.IsUtf8-from_is_utf8, Iterator.YieldsList-from_chars}
use Rattle.std.proofs.lemmas.Iterator.Consumers.{YieldsList-so_far, YieldsList-turn, YieldsList-end}
use Rattle.kmip_ttlv_util.proofs.Saying.{adds_same, breaks_rest, err_now}
use Rattle.kmip_ttlv_json.specs.Spellings.{char_text}
use Rattle.kmip_ttlv_json.proofs.Escapes.{escaped_text, char_parts, chars_more}
use Rattle.kmip_ttlv_json.proofs.quoted.push_escaped.Goals as goal

pub from_utf8_unchecked-text-requires : goal.from_utf8_unchecked-text-requires
from_utf8_unchecked-text-requires g c = IsUtf8-from_is_utf8 c.args.text.now c.requires

pub loop-c-init : goal.loop-c-init
loop-c-init g c = g.met.S.TextSink.adds_none c.args.out.now

pub loop-c-preserved : goal.loop-c-preserved
loop-c-preserved g c =
    adds_same g.S.TextSink.adds g.S.TextSink.breaks _ _ _ _ (g.met.S.TextSink.adds_both _ _ _ (flat_map char_text c.loop-c.yielded)
    (char_text c.in-Some.c) c.loop-c.invariant c.in_ok-push_char.ensures.ok) (sym (chars_more char_text c.loop-c.yielded c.in-Some.c))

pub returns-in_err-push_char-clause-err : goal.returns-in_err-push_char-clause-err
returns-in_err-push_char-clause-err g c =
    let text = c.from_utf8_unchecked-text.result.now in
    let seen = c.loop-c.yielded in
    let x = c.in-Some.c in
    let utf8 = IsUtf8-from_is_utf8 text (ap is_utf8 c.from_utf8_unchecked-text.ensures ∙ c.requires) in
    let road = YieldsList-from_chars text utf8 cc in
    let turn = YieldsList-turn road seen _ c.loop-c.yielded_by _ _ x c.in-Some.is c.next.ensures.steps in
    let whole = char_parts char_text (chars text) seen x (YieldsList-so_far road seen _ c.loop-c.yielded_by) turn.0 turn.1 in
    let here = g.met.S.TextSink.breaks_second _ _ _ (flat_map char_text seen) (char_text x) c.loop-c.invariant c.in_err-push_char.ensures.err in
    err_now g.S.TextSink.adds g.S.TextSink.breaks _ _ _ _ (breaks_rest g.S.TextSink.adds g.S.TextSink.breaks g.met.S.TextSink.breaks_first _ _
    (flat_map char_text seen ++ char_text x) (flat_map char_text (drop (length seen + 1) (chars text))) _ here
    (whole ∙ ap (λ (s : List ℕ). flat_map char_text (chars s)) c.from_utf8_unchecked-text.ensures
    ∙ escaped_text c.args.text.now c.requires))

pub returns-clause-ok : goal.returns-clause-ok
returns-clause-ok g c =
    let text = c.from_utf8_unchecked-text.result.now in
    let end = YieldsList-end (YieldsList-from_chars text (IsUtf8-from_is_utf8 text (ap is_utf8 c.from_utf8_unchecked-text.ensures ∙ c.requires)) cc)
    c.loop-c.yielded _ c.loop-c.yielded_by _ _ c.in-None.is c.next.ensures.steps in
    adds_same g.S.TextSink.adds g.S.TextSink.breaks _ _ _ _ c.loop-c.invariant
    (ap (flat_map char_text) ((sym (map-id c.loop-c.yielded) ∙ end.0) ∙ ap chars c.from_utf8_unchecked-text.ensures)
    ∙ escaped_text c.args.text.now c.requires)
