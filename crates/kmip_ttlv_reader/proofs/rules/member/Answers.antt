use Rattle.std.proofs.Common.{◌≡◌, ap, ◌∙◌, rules, ◌==◌, lit<}
use borrow.Author.Tests.{tests}
use Rattle.std.specs.{List.list_any, List.slice_split, Str.bytes_eq, Str.trim}
use Rattle.std.proofs.lemmas.Iterator.{Search.any_from_yields_List, Splits.YieldsList-from_str_split}
use Rattle.kmip_ttlv_reader.specs.Rules.{plain_verdict}
use Rattle.kmip_ttlv_reader.proofs.RuleLemmas.{member_said}
use Rattle.kmip_ttlv_reader.proofs.rules.member.Goals as goal

pub returns : goal.returns
returns g c =
    let all = c.in-Some.all.now in
    let text = c.in-Some-last.text.now in
    let any : c.any.result ≡ list_any (λ m. bytes_eq (trim m) text) (slice_split (λ b. b == 44) all) =
    any_from_yields_List (λ m. bytes_eq (trim m) text) _ _ _ c.any.ensures.ran
    (YieldsList-from_str_split 44 _ (lit< tt) c.split.ensures.text c.split.ensures.has_more c.split.ensures.pattern) (λ x b q k. search (rules, tests)) in
    c.verdict_by.ensures ∙ ap plain_verdict any ∙ member_said c.args.stored.now c.args.left.now c.args.right.now all c.in-Some-from_name.tag text
    c.in-Some.ensures c.in-Some-from_name.ensures c.in-Some-last.ensures
