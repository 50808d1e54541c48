use Rattle.std.proofs.Common.{◌≡◌, ◌<◌, ◌+◌, ◌++◌, ◌∷◌, [], List, ℕ, length, take, drop, get_or, map, flat_map, sym, ap, ◌∙◌, map-id}
use Rattle.std.specs.Str.{chars}
use Rattle.std.proofs.lemmas.{Grind.take_at_read, Grind.flat_map-append, List.take-append-drop, Iterator.YieldsList-from_chars}
use Rattle.std.proofs.lemmas.Iterator.Consumers.{YieldsList-so_far, YieldsList-turn, YieldsList-end}
use Rattle.kmip_ttlv_util.proofs.Saying.{adds_same, breaks_rest, err_now}
use Rattle.ttlv_run.specs.Escapes.{escaped_char, escape}
use Rattle.ttlv_run.proofs.Completion.{flat_map-more}
use Rattle.ttlv_run.proofs.escape.push_chars.Goals as goal

-- the characters so far, this one, and the others
parts : (f : ℕ → List ℕ) (all seen : List ℕ) (x : ℕ) → map (λ c. c) seen ≡ take (length seen) all → length seen < length all → x ≡ get_or all (length seen) x
    → (flat_map f seen ++ f x) ++ flat_map f (drop (length seen + 1) all) ≡ flat_map f all
parts f all seen x far lt is =
    let n = length seen in
    let front : take (n + 1) all ≡ seen ++ (x ∷ []) = (take_at_read all n x lt).1 ∙ ap (λ (s : List ℕ). s ++ (get_or all n x ∷ [])) (sym far ∙ map-id seen)
    ∙ ap (λ (c : ℕ). seen ++ (c ∷ [])) (sym is) in
    ap (λ (s : List ℕ). s ++ flat_map f (drop (n + 1) all)) (sym (flat_map-more f x seen) ∙ ap (flat_map f) (sym front))
    ∙ sym (flat_map-append f (take (n + 1) all) (drop (n + 1) all)) ∙ ap (flat_map f) (take-append-drop (n + 1) all)

pub loop-c-init : goal.loop-c-init
loop-c-init g c = g.met.S.PlainSink.adds_none c.args.out.now

pub loop-c-preserved : goal.loop-c-preserved
loop-c-preserved g c =
    adds_same g.S.PlainSink.adds g.S.PlainSink.breaks _ _ _ _ (g.met.S.PlainSink.adds_both _ _ _ (flat_map escaped_char c.loop-c.yielded)
    (escaped_char c.in-Some.c) c.loop-c.invariant c.in_ok-push_char.ensures.ok) (sym (flat_map-more escaped_char c.in-Some.c c.loop-c.yielded))

pub returns-in_err-push_char-clause-err : goal.returns-in_err-push_char-clause-err
unfolding escape
returns-in_err-push_char-clause-err g c =
    let text = c.args.text.now in
    let seen = c.loop-c.yielded in
    let x = c.in-Some.c in
    let road = YieldsList-from_chars text c.utf8.text cc in
    let turn = YieldsList-turn road seen _ c.loop-c.yielded_by _ _ x c.in-Some.is c.next.ensures.steps in
    let whole = parts escaped_char (chars text) seen x (YieldsList-so_far road seen _ c.loop-c.yielded_by) turn.0 turn.1 in
    let here = g.met.S.PlainSink.breaks_second _ _ _ (flat_map escaped_char seen) (escaped_char x) c.loop-c.invariant c.in_err-push_char.ensures.err in
    err_now g.S.PlainSink.adds g.S.PlainSink.breaks _ _ _ _ (breaks_rest g.S.PlainSink.adds g.S.PlainSink.breaks g.met.S.PlainSink.breaks_first _ _
    (flat_map escaped_char seen ++ escaped_char x) (flat_map escaped_char (drop (length seen + 1) (chars text))) _ here whole)

pub returns-clause-ok : goal.returns-clause-ok
unfolding escape
returns-clause-ok g c =
    let end = YieldsList-end (YieldsList-from_chars c.args.text.now c.utf8.text cc)
    c.loop-c.yielded _ c.loop-c.yielded_by _ _ c.in-None.is c.next.ensures.steps in
    adds_same g.S.PlainSink.adds g.S.PlainSink.breaks _ _ _ _ c.loop-c.invariant (ap (flat_map escaped_char) (sym (map-id c.loop-c.yielded) ∙ end.0))
