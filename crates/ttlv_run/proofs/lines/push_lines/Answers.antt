use Rattle.std.proofs.Common.{◌≡◌, ◌∙◌, ◌+◌, ap, sym, refl, subst, List, [], ◌∷◌, ◌++◌, ℕ, arith}
use Rattle.kmip_ttlv_types.specs.Places.{size}
use Rattle.kmip_ttlv_items.specs.{ItemWalks.Ended, Stepping.Steps, Stepping.StepsTo, declared.found.FoundItem.FoundItem}
use Rattle.kmip_ttlv_util.proofs.Saying.{adds_same, breaks_same}
use Rattle.ttlv_run.specs.{declared.job.Look.Look, declared.lines.Reach.Reach, Items.IsGood}
use Rattle.ttlv_run.specs.Texts.{Names, names_of, reach_after, reach_all, no_reach, item_text, lines_from}
use Rattle.ttlv_run.proofs.Completion.{lines-more, reach-more}
use Rattle.ttlv_run.proofs.{Good.whole_good, Printing.err_holds, Printing.broken_lines}
use Rattle.ttlv_run.proofs.lines.push_lines.Goals as goal

-- one line more
one_line_more : (names : Names) (look : Look) (message : List ℕ) {before reach : Reach} (i : FoundItem) (found : List FoundItem)
    → reach ≡ reach_after names look message before i
    → before ≡ reach_all names look message no_reach found
    → (reach ≡ reach_all names look message no_reach (found ++ (i ∷ [])))
    × ((at : ℕ) → lines_from names look at message no_reach found ++ item_text names look reach at message i
    ≡ lines_from names look at message no_reach (found ++ (i ∷ [])))
one_line_more names look message i found is before_is =
    let same = is ∙ ap (λ (r : Reach). reach_after names look message r i) before_is in (
      same ∙ sym (reach-more names look 0 message no_reach i found),
      λ at. ap (λ (r : Reach). lines_from names look at message no_reach found ++ item_text names look r at message i) same
          ∙ sym (lines-more names look at message no_reach i found),
    )

pub items-init : goal.items-init
items-init g c = record { bytes = c.new-walk.ensures.bytes; reported = ([], c.new-walk.ensures.met, refl, g.met.S.TextSink.adds_none c.args.out.now) }

pub reach_after-reach-requires : goal.reach_after-reach-requires
reach_after-reach-requires g c =
    let w = c.items.walk.bytes.now in
    let i = c.in-Item.item in
    let yields : StepsTo c.items.walk c.next.new.self i = subst (Steps c.items.walk c.next.new.self) c.in-Item.is c.in_ok-item.ensures.ok in
    let good : IsGood w i = whole_good w i.offset (i.offset + size i.typ i.length) i.depth i yields.whole in
    subst (λ (s : List ℕ). IsGood s i) c.items.invariant.bytes good

pub push_item-requires-clause-good : goal.push_item-requires-clause-good
push_item-requires-clause-good g c =
    let w = c.items.walk.bytes.now in
    let i = c.in-Item.item in
    let yields : StepsTo c.items.walk c.next.new.self i = subst (Steps c.items.walk c.next.new.self) c.in-Item.is c.in_ok-item.ensures.ok in
    let good : IsGood w i = whole_good w i.offset (i.offset + size i.typ i.length) i.depth i yields.whole in
    subst (λ (s : List ℕ). IsGood s i) c.items.invariant.bytes good

pub items-preserved : goal.items-preserved
items-preserved g c =
    let yields : StepsTo c.items.walk c.next.new.self c.in-Item.item = subst (Steps c.items.walk c.next.new.self) c.in-Item.is c.in_ok-item.ensures.ok in
    let r = c.items.invariant.reported in
    let k = one_line_more (names_of c.args.names.now) c.args.look c.args.message.now c.in-Item.item r.0 c.reach_after-reach.ensures r.2 in
    record {
      bytes = c.next.ensures.bytes ∙ c.items.invariant.bytes;
      reported = (
        r.0 ++ (c.in-Item.item ∷ []),
        yields.met r.0 r.1,
        k.0,
        adds_same g.S.TextSink.adds g.S.TextSink.breaks _ _ _ _ (g.met.S.TextSink.adds_both _ _ _ _ _ r.3 c.in_ok-push_item-in-Item.ensures.ok) (k.1 _),
      );
    }

pub returns-in-End-clause-ok : goal.returns-in-End-clause-ok
returns-in-End-clause-ok g c =
    let found = c.items.invariant.reported.0 in
    let fault = c.in-End.fault in
    let ends = subst (Steps c.items.walk c.next.new.self) c.in-End.is c.in_ok-item.ensures.ok in
    record {
      text = lines_from (names_of c.args.names.now) c.args.look c.args.at c.args.message.now no_reach found;
      is = record {
        found = found;
        ended = subst (λ (s : List ℕ). Ended s found fault) c.items.invariant.bytes (ends.1 found c.items.invariant.reported.1);
        is = refl;
      };
      holds = c.items.invariant.reported.3;
    }

-- out of memory: the lines so far are a beginning
pub returns-in_err-item-clause-err : goal.returns-in_err-item-clause-err
returns-in_err-item-clause-err g c =
    let r = c.items.invariant.reported in
    err_holds _ _ (broken_lines g.S.TextSink.breaks _ _ g.met.S.TextSink.breaks_first (λ k. omega (arith, c.type_inv.message k)) c.items.invariant.bytes r.1
    (g.met.S.TextSink.breaks_after _ _ _ r.3))

-- the sink failed in a line, behind which others follow
pub returns-in_err-push_item-in-Item-clause-err : goal.returns-in_err-push_item-in-Item-clause-err
returns-in_err-push_item-in-Item-clause-err g c =
    let yields : StepsTo c.items.walk c.next.new.self c.in-Item.item = subst (Steps c.items.walk c.next.new.self) c.in-Item.is c.in_ok-item.ensures.ok in
    let r = c.items.invariant.reported in
    let k = one_line_more (names_of c.args.names.now) c.args.look c.args.message.now c.in-Item.item r.0 c.reach_after-reach.ensures r.2 in
    let here = breaks_same g.S.TextSink.adds g.S.TextSink.breaks _ _ _ _
    (g.met.S.TextSink.breaks_second _ _ _ _ _ r.3 c.in_err-push_item-in-Item.ensures.err) (k.1 _) in
    err_holds _ _ (broken_lines g.S.TextSink.breaks _ _ g.met.S.TextSink.breaks_first (λ k. omega (arith, c.type_inv.message k))
    (c.next.ensures.bytes ∙ c.items.invariant.bytes) (yields.met r.0 r.1) here)
