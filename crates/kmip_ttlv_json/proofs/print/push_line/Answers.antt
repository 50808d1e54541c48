use Rattle.std.proofs.Common.{◌∙◌, ◌<◌, ℕ, List, [], ◌∷◌, ◌++◌, get_or, refl, ap, subst, arith}
use Rattle.std.specs.Prelude.{codes}
use Rattle.kmip_ttlv_items.specs.{Enclosing.open_ends, ItemWalks.Ended, Stepping.Steps, Stepping.StepsTo}
use Rattle.kmip_ttlv_util.proofs.Saying.{adds_same, breaks_same}
use Rattle.kmip_ttlv_json.specs.declared.print.Spot.{Spot}
use Rattle.kmip_ttlv_json.specs.Parts.{closes, spot_after, parts, spot_behind, first_spot}
use Rattle.kmip_ttlv_json.specs.Printings.{style_of, secrets_of, shown_of, has_line, IsThere}
use Rattle.kmip_ttlv_json.proofs.Found.{found_lines, one_more, spot_more, left_over, rest_printed, begun_json, json_is, err_json}
use Rattle.kmip_ttlv_json.proofs.print.push_line.Goals as goal

pub items-init : goal.items-init
items-init g c = record { bytes = c.new-walk.ensures.bytes; printed_lines = ([], c.new-walk.ensures.met, refl, g.met.S.TextSink.adds_none c.args.out.now) }

pub push_item-requires : goal.push_item-requires
push_item-requires g c =
    let comes : StepsTo c.items.walk c.next.new.self c.in-Item.item = rw c.in-Item.is at c.in_ok-item.ensures.ok in
    rw c.items.invariant.bytes at comes.whole

pub items-preserved : goal.items-preserved
items-preserved g c =
    let i = c.in-Item.item in
    let comes : StepsTo c.items.walk c.next.new.self i = subst (Steps c.items.walk c.next.new.self) c.in-Item.is c.in_ok-item.ensures.ok in
    let w = c.args.message.now in
    let there : IsThere w i = subst (λ (s : List ℕ). IsThere s i) c.items.invariant.bytes comes.whole in
    let found = c.items.invariant.printed_lines.0 in
    let style = style_of c.args.words in
    let secrets = secrets_of c.args.hiding (has_line c.args.secrets.now) in
    let shown = shown_of c.args.hiding in
    let first = parts style secrets shown first_spot (found_lines w found) in
    let same = one_more style secrets shown w found i there c.items.spot c.is_secret-is_secret.result c.shown_at-shown.result c.items.invariant.printed_lines.2
    c.is_secret-is_secret.ensures c.shown_at-shown.ensures in
    record {
      bytes = c.next.ensures.bytes ∙ c.items.invariant.bytes;
      printed_lines = (
        found ++ (i ∷ []),
        comes.met found c.items.invariant.printed_lines.1,
        c.spot_after-spot.ensures secrets c.is_secret-is_secret.ensures
            ∙ ap (λ (s : Spot). spot_after secrets s i.depth i.tag i.typ) c.items.invariant.printed_lines.2
            ∙ spot_more style secrets shown w found i,
        adds_same g.S.TextSink.adds g.S.TextSink.breaks _ _ _ _
            (g.met.S.TextSink.adds_both _ _ _ first _ c.items.invariant.printed_lines.3 c.in_ok-push_item-in-Item.ensures.ok) same,
      );
    }

-- out of memory: what was printed so far is a beginning
pub returns-in_err-item-clause-err : goal.returns-in_err-item-clause-err
returns-in_err-item-clause-err g c =
    let w = c.args.message.now in
    let plain : (k : ℕ) → get_or w k 0 < 256 = λ k. omega (arith, c.type_inv.message k) in
    let walk = c.items.walk in
    let found = c.items.invariant.printed_lines.0 in
    let left = left_over w walk.bytes.now c.items.invariant.bytes plain c.requires.found c.requires.ended walk.offset (open_ends walk.ends) found
    c.items.invariant.printed_lines.1 in
    err_json _ g.S.TextSink.breaks
    (begun_json (style_of c.args.words) (secrets_of c.args.hiding (has_line c.args.secrets.now)) (shown_of c.args.hiding) w plain found left)
    (g.met.S.TextSink.breaks_first _ _ _ _ (g.met.S.TextSink.breaks_after _ _ _ c.items.invariant.printed_lines.3))

-- the sink failed in an item, behind which others follow
pub returns-in_err-push_item-in-Item-clause-err : goal.returns-in_err-push_item-in-Item-clause-err
returns-in_err-push_item-in-Item-clause-err g c =
    let i = c.in-Item.item in
    let comes : StepsTo c.items.walk c.next.new.self i = subst (Steps c.items.walk c.next.new.self) c.in-Item.is c.in_ok-item.ensures.ok in
    let w = c.args.message.now in
    let plain : (k : ℕ) → get_or w k 0 < 256 = λ k. omega (arith, c.type_inv.message k) in
    let there : IsThere w i = subst (λ (s : List ℕ). IsThere s i) c.items.invariant.bytes comes.whole in
    let style = style_of c.args.words in
    let secrets = secrets_of c.args.hiding (has_line c.args.secrets.now) in
    let shown = shown_of c.args.hiding in
    let walk = c.next.new.self in
    let found = c.items.invariant.printed_lines.0 in
    let more = found ++ (i ∷ []) in
    let left = left_over w walk.bytes.now (c.next.ensures.bytes ∙ c.items.invariant.bytes) plain c.requires.found c.requires.ended walk.offset
    (open_ends walk.ends) more (comes.met found c.items.invariant.printed_lines.1) in
    let same = one_more style secrets shown w found i there c.items.spot c.is_secret-is_secret.result c.shown_at-shown.result c.items.invariant.printed_lines.2
    c.is_secret-is_secret.ensures c.shown_at-shown.ensures in
    let here = breaks_same g.S.TextSink.adds g.S.TextSink.breaks _ _ _ _
    (g.met.S.TextSink.breaks_second _ _ _ (parts style secrets shown first_spot (found_lines w found)) _ c.items.invariant.printed_lines.3
    c.in_err-push_item-in-Item.ensures.err) same in
    err_json _ g.S.TextSink.breaks (begun_json style secrets shown w plain more left) (g.met.S.TextSink.breaks_first _ _
    (parts style secrets shown first_spot (found_lines w more)) (rest_printed style secrets shown w plain more left) here)

pub returns-in_err-push_end-in-End-clause-err : goal.returns-in_err-push_end-in-End-clause-err
returns-in_err-push_end-in-End-clause-err g c =
    let w = c.args.message.now in
    let plain : (k : ℕ) → get_or w k 0 < 256 = λ k. omega (arith, c.type_inv.message k) in
    let style = style_of c.args.words in
    let secrets = secrets_of c.args.hiding (has_line c.args.secrets.now) in
    let shown = shown_of c.args.hiding in
    let found = c.items.invariant.printed_lines.0 in
    let fault = c.in-End.fault in
    let ends = subst (Steps c.items.walk c.next.new.self) c.in-End.is c.in_ok-item.ensures.ok in
    let ended = subst (λ (s : List ℕ). Ended s found fault) c.items.invariant.bytes (ends.1 found c.items.invariant.printed_lines.1) in
    let first = parts style secrets shown first_spot (found_lines w found) in
    err_json _ g.S.TextSink.breaks (json_is style secrets shown w plain c.requires.found c.requires.ended found fault ended)
    (breaks_same g.S.TextSink.adds g.S.TextSink.breaks _ _ _ _
    (g.met.S.TextSink.breaks_second _ _ _ first _ c.items.invariant.printed_lines.3 c.in_err-push_end-in-End.ensures.err)
    (ap (λ (s : Spot). first ++ (closes s.depth ++ codes "\n")) c.items.invariant.printed_lines.2))

pub returns-in-End-clause-ok : goal.returns-in-End-clause-ok
returns-in-End-clause-ok g c =
    let w = c.args.message.now in
    let plain : (k : ℕ) → get_or w k 0 < 256 = λ k. omega (arith, c.type_inv.message k) in
    let style = style_of c.args.words in
    let secrets = secrets_of c.args.hiding (has_line c.args.secrets.now) in
    let shown = shown_of c.args.hiding in
    let found = c.items.invariant.printed_lines.0 in
    let fault = c.in-End.fault in
    let ends = subst (Steps c.items.walk c.next.new.self) c.in-End.is c.in_ok-item.ensures.ok in
    let ended = subst (λ (s : List ℕ). Ended s found fault) c.items.invariant.bytes (ends.1 found c.items.invariant.printed_lines.1) in
    let first = parts style secrets shown first_spot (found_lines w found) in
    record {
      text = first ++ (closes (spot_behind secrets first_spot (found_lines w found)).depth ++ codes "\n");
      is = json_is style secrets shown w plain c.requires.found c.requires.ended found fault ended;
      holds = adds_same g.S.TextSink.adds g.S.TextSink.breaks _ _ _ _
          (g.met.S.TextSink.adds_both _ _ _ first _ c.items.invariant.printed_lines.3 c.in_ok-push_end-in-End.ensures.ok)
          (ap (λ (s : Spot). first ++ (closes s.depth ++ codes "\n")) c.items.invariant.printed_lines.2);
    }
