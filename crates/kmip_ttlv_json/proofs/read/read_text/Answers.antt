use Rattle.std.proofs.Common.{◌≡◌, ◌≢◌, ◌∙◌, ◌+◌, [], ◌∷◌, length, ap, sym, subst, arith, rules}
use Rattle.json.specs.Reads.{token_of}
use Rattle.kmip_ttlv_json.specs.Events.{unplaced, IsItem}
use Rattle.kmip_ttlv_json.specs.JsonTrees.{tree_of}
use Rattle.kmip_ttlv_json.specs.Spots.{StopsInText, IsTextPlaced}
use Rattle.kmip_ttlv_json.proofs.{Counted.tokens_few, Events.same_item}
use Rattle.kmip_ttlv_json.proofs.Spotting.{text_parsed, text_behind, text_stops, text_placed}
use Rattle.kmip_ttlv_json.proofs.read.read_text.Goals as goal

pub read_value-requires : goal.read_value-requires
read_value-requires g c = omega (arith, tokens_few c.args.text.now, ap length c.in_ok-new.ensures.ok)

pub returns-in_err-seen-clause-there : goal.returns-in_err-seen-clause-there
returns-in_err-seen-clause-there g c =
    let ts = c.in_ok-new.field-0 in
    let e = c.in_err-seen.field-0.0 in
    let all : StopsInText c.args.text.now e =
    text_stops c.args.text.now ts c.in_ok-new.ensures.ok (0 + length ts) (omega arith) e c.in_err-seen.ensures.there in
    search rules

pub next-requires : goal.next-requires
next-requires g c = omega (arith, tokens_few c.args.text.now, ap length c.in_ok-new.ensures.ok, c.in_ok-seen.ensures.counted)

pub returns-in-Some-clause-there : goal.returns-in-Some-clause-there
returns-in-Some-clause-there g c =
    let rest = c.read_value.new.reader.reader in
    let first : rest ≡ token_of c.in-Some.field-0 ∷ c.next.new.self.reader = c.in-Some.ensures.value in
    let some : rest ≢ [] = λ none. let e : token_of c.in-Some.field-0 ∷ c.next.new.self.reader ≡ [] = sym first ∙ none in absurd (cc) in
    text_behind c.args.text.now c.in_ok-new.field-0 c.in_ok-new.ensures.ok rest c.in_ok-seen.ensures.ok.json c.read_value.new.reader.taken
    c.in_ok-seen.ensures.ok.parsed some (omega (arith, c.in_ok-seen.ensures.counted))

pub returns-in-None-clause-ok : goal.returns-in-None-clause-ok
returns-in-None-clause-ok g c =
    let reads = c.in_ok-seen.ensures.ok in
    let seen = c.in_ok-seen.seen in
    record {
      json = reads.json;
      parsed = text_parsed c.args.text.now c.in_ok-new.field-0 c.in_ok-new.ensures.ok c.read_value.new.reader.reader reads.json reads.parsed
          c.in-None.ensures.value.0;
      adds = record {
        added = reads.added;
        all = reads.all;
        is = subst (λ r. IsItem (tree_of reads.json) r reads.added) (sym (ap unplaced c.item.ensures ∙ same_item 0 seen)) reads.is.item;
      };
    }

pub returns-in-None-clause-placed : goal.returns-in-None-clause-placed
returns-in-None-clause-placed g c =
    let ts = c.in_ok-new.field-0 in
    subst (IsTextPlaced c.args.text.now) (sym c.item.ensures)
    (text_placed c.args.text.now ts c.in_ok-new.ensures.ok (0 + length ts) (omega arith) c.in_ok-seen.seen c.in_ok-seen.ensures.placed)
