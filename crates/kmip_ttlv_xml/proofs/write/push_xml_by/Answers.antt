use Rattle.std.proofs.Common.{rules, ◌≡◌, ◌∙◌, ◌++◌, true, sym, subst, ap}
use Rattle.std.specs.Prelude.{string_bytes}
use Rattle.kmip_ttlv_xml.specs.XmlReadings.{IsReadAs}
use Rattle.kmip_ttlv_xml.proofs.ReadingBack.{reads_true, yes_of}
use Rattle.kmip_ttlv_xml.proofs.write.push_xml_by.Goals as goal

pub returns-clause-ok : goal.returns-clause-ok
returns-clause-ok g c =
    let are = c.in_ok-draft.ensures.ok in
    let yes : c.in_ok-is_same.is_same ≡ true = first_of (assumption (c.if-not-is_same.false), search (rules, yes_of)) in
    let back = reads_true c.as_str.result.now c.as_slice.result.now c.in_ok-is_same.is_same c.in_ok-is_same.ensures yes in
    record {
      items = are.items;
      lists = are.lists;
      text = c.as_str.result.now;
      all = c.in_ok-push_str.ensures.bytes ∙ ap (λ s. string_bytes c.args.out.now ++ s) (c.as_str-2.ensures.value ∙ sym c.as_str.ensures.value);
      reads = subst (IsReadAs c.as_str.result.now) (c.as_slice.ensures.value ∙ are.is) back;
    }
