use Rattle.std.proofs.Common.{◌≡◌, ◌∙◌, ◌-◌, ◌<◌, ◌++◌, true, false, List, [], ◌∷◌, length, take, Some, None, option_map, option_and_then, refl, sym, ap}
use Rattle.std.proofs.Common.{ap₂, subst, arith, rules, inl, inr}
use Rattle.std.specs.Prelude.{ℕ, is_some, codes}
use Rattle.std.specs.Str.{bytes_eq}
use Rattle.std.proofs.lemmas.{Slice.Eq.bytes_eq-Decides, List.take_at}
use Rattle.json.specs.Token.{Token}
use Rattle.json.specs.Json.{parse_map, after_end_array, read_key, items, members, value}
use Rattle.json.specs.Reads.{token_of}
use Rattle.json.proofs.Grammar.{value_is}
use Rattle.serde_json.specs.Data.{null, boolean, number, string, no_members, array, object}
use Rattle.serde_json.specs.Read.{number_of, of_json, of_items, of_members, converted}
use Rattle.kmip_ttlv_json.specs.JsonTrees.{whole_num}
use Rattle.kmip_ttlv_json.specs.declared.seen.Seen.TheVariants.{Text, Truth, Number, Null}
use Rattle.kmip_ttlv_json.specs.declared.failure.BadMember.TheVariants.{Members as BadMembers}
use Rattle.kmip_ttlv_json.specs.Events.{unplaced, both_at, both_seen, kept, item_at, item_in, is_other, Stops, Reads, ReadsMember}
use Rattle.kmip_ttlv_json.specs.Spots.{all_of, begins_value, itself, IsPlaced, ArePlaced, IsItemPlaced, MeetsPlaced, StopsThere, StopsInItems, StopsInMembers}
use Rattle.kmip_ttlv_json.proofs.Events.{ItemsSoFar, items_begin, items_turn, items_stop, items_end, members_begin, members_turn, members_stop, no_key}
use Rattle.kmip_ttlv_json.proofs.Events.{members_end, members_parsed, refused, stops_in, plain_read, array_read, object_read, array_opened, object_opened}
use Rattle.kmip_ttlv_json.proofs.Events.{number_there, number_lacks, both_plain}
use Rattle.kmip_ttlv_json.proofs.Spotting.{ItemsOn, items_on, items_on_turn, items_on_stop, items_placed, members_on, members_on_turn, members_on_stop}
use Rattle.kmip_ttlv_json.proofs.Spotting.{no_key_there, members_placed, value_placed, stopped, array_stops, object_stops, array_placed, object_placed}
use Rattle.kmip_ttlv_json.proofs.MembersMet.{meets_tag, meets_type, meets_value, meets_other}
use Rattle.kmip_ttlv_json.proofs.read.+read.Goals as goal

-- ---- items

pub read_items-items-init : goal.read_items-items-init
read_items-items-init g t c = record {
  so = items_begin c.args.depth c.args.reader.now.reader c.args.out.now.items c.extend_from_slice.new.self.items c.in_ok-extend_from_slice.ensures.items;
  counted = refl;
  on = items_on _ _ _;
}

pub read_items-returns-in_err-seen-clause-err : goal.read_items-returns-in_err-seen-clause-err
read_items-returns-in_err-seen-clause-err g t c =
    let l = c.items in
    let e = c.in_err-seen.field-0.0 in
    let going : (after_end_array l.reader.reader ≡ None) × (c.take_end_array.new.self ≡ l.reader) = grind arith in
    let stop = subst (λ r. Stops (converted of_json (value c.args.depth r.reader)) e) going.1 c.in_err-seen.ensures.err in
    let all : Stops (converted of_items (items (value c.args.depth) (length c.args.reader.now.reader) c.args.reader.now.reader)) e =
    items_stop c.args.depth c.args.reader.now.reader c.args.out.now.items l.reader.reader (unplaced l.all) l.out.items l.invariant.so going.0 e stop in
    search rules

pub read_items-returns-in_err-seen-clause-there : goal.read_items-returns-in_err-seen-clause-there
read_items-returns-in_err-seen-clause-there g t c =
    let l = c.items in
    let e = c.in_err-seen.field-0.0 in
    let total = all_of c.args.reader.now in
    let going : (after_end_array l.reader.reader ≡ None) × (c.take_end_array.new.self ≡ l.reader) = grind arith in
    let stop = subst (λ r. StopsThere (all_of r) c.args.depth r.reader e) going.1 c.in_err-seen.ensures.there in
    let there : StopsThere total c.args.depth l.reader.reader e = subst (λ n. StopsThere n c.args.depth l.reader.reader e) l.invariant.counted stop in
    let all : StopsInItems total c.args.depth c.args.reader.now.reader e =
    items_on_stop total c.args.depth c.args.reader.now.reader l.reader.reader l.all l.invariant.on going.0 e there in
    search rules

pub read_items-items-preserved : goal.read_items-items-preserved
read_items-items-preserved g t c =
    let l = c.items in
    let seen = c.in_ok-seen.seen in
    let old = c.args.out.now.items in
    let mid = c.read_value.new.out.items in
    let new = c.keep_items.new.out.items in
    let rest = c.read_value.new.reader.reader in
    let total = all_of c.args.reader.now in
    let going : (after_end_array l.reader.reader ≡ None) × (c.take_end_array.new.self ≡ l.reader) = grind arith in
    let same : c.take_end_array.new.self.reader ≡ l.reader.reader = ap (λ r. r.reader) going.1 in
    let reads = subst (λ ts. Reads c.args.depth ts rest l.out.items mid seen) same c.in_ok-seen.ensures.ok in
    let less : length rest < length l.reader.reader = rw (← same) c.in_ok-seen.ensures.shorter in
    let at = c.take_end_array.new.self.taken in
    let all : c.both-all.result ≡ both_at l.all (item_at at seen) = c.both-all.ensures ∙ ap (both_at l.all) c.item.ensures in
    let plain : unplaced c.both-all.result ≡ both_seen (unplaced l.all) (item_in seen) = ap unplaced all ∙ both_plain l.all at seen in
    let mark : c.len-mark.result ≡ length l.out.items = search rules in
    let left : new ≡ kept (length l.out.items) (both_seen (unplaced l.all) (item_in seen)) mid =
    c.keep_items.ensures ∙ ap (λ n. kept n (unplaced c.both-all.result) mid) mark ∙ ap (λ r. kept (length l.out.items) r mid) plain in
    let count : all_of c.take_end_array.new.self ≡ total = ap all_of going.1 ∙ l.invariant.counted in
    let here : total - at ≡ length l.reader.reader = omega (arith, count, ap length same) in
    let placed : IsPlaced total c.args.depth l.reader.reader seen =
    subst (λ n. IsPlaced n c.args.depth l.reader.reader seen) l.invariant.counted
    (subst (λ r. IsPlaced (all_of r) c.args.depth r.reader seen) going.1 c.in_ok-seen.ensures.placed) in
    record {
      so = subst (λ r. ItemsSoFar c.args.depth c.args.reader.now.reader rest r old new) (sym plain)
          (items_turn c.args.depth c.args.reader.now.reader old l.reader.reader (unplaced l.all) l.out.items l.invariant.so going.0 rest mid new seen reads less
          left);
      counted = c.in_ok-seen.ensures.counted ∙ count;
      on = subst (ItemsOn total c.args.depth c.args.reader.now.reader rest) (sym all)
          (items_on_turn total c.args.depth c.args.reader.now.reader l.reader.reader l.all l.invariant.on going.0 at here rest reads.json seen reads.added
          reads.parsed reads.is.item placed);
    }

pub read_items-returns-clause-ok : goal.read_items-returns-clause-ok
read_items-returns-clause-ok g t c =
    let l = c.items in
    items_end c.args.depth c.args.reader.now.reader c.args.out.now.items l.reader.reader (unplaced l.all) l.out.items l.invariant.so
    c.take_end_array.new.self.reader (grind arith)

pub read_items-returns-clause-placed : goal.read_items-returns-clause-placed
read_items-returns-clause-placed g t c =
    let l = c.items in
    items_placed (all_of c.args.reader.now) c.args.depth c.args.reader.now.reader l.reader.reader l.all l.invariant.on

-- ---- members

pub read_member-returns-then-eq-clause-ok : goal.read_member-returns-then-eq-clause-ok
read_member-returns-then-eq-clause-ok g t c =
    let name = c.args.name.now in
    let old = c.args.out.now.items in
    let reads = c.in_ok-seen.ensures.ok in
    let same : bytes_eq name (codes "value") ≡ true = search rules in
    record {
      json = reads.json;
      parsed = reads.parsed;
      meets = λ before front top m. meets_value name c.args.met reads.json c.in_ok-seen.seen before front old c.read_value.new.out.items m
          ((bytes_eq-Decides name (codes "value")).0 same) reads.added reads.is
          (reads.all ∙ ap (λ (s : List ℕ). s ++ reads.added) (c.truncate.ensures.items ∙ ap (λ n. take n old) (sym top)));
    }

pub read_member-returns-then-eq-2-clause-ok : goal.read_member-returns-then-eq-2-clause-ok
read_member-returns-then-eq-2-clause-ok g t c =
    let name = c.args.name.now in
    let old = c.args.out.now.items in
    let reads = c.in_ok-seen-2.ensures.ok in
    let new = c.truncate-2.new.self.items in
    let same : bytes_eq name (codes "tag") ≡ true = search rules in
    let mark : c.len-mark.result ≡ length old = search rules in
    let stays : new ≡ old = c.truncate-2.ensures.items ∙ ap₂ take mark reads.all ∙ take_at old reads.added (length old) refl in
    record {
      json = reads.json;
      parsed = reads.parsed;
      meets = λ before front top m. meets_tag name c.args.met reads.json c.in_ok-seen-2.seen before front old new m
          ((bytes_eq-Decides name (codes "tag")).0 same) reads.is.text stays;
    }

pub read_member-returns-then-eq-3-clause-ok : goal.read_member-returns-then-eq-3-clause-ok
read_member-returns-then-eq-3-clause-ok g t c =
    let name = c.args.name.now in
    let old = c.args.out.now.items in
    let reads = c.in_ok-seen-2.ensures.ok in
    let new = c.truncate-2.new.self.items in
    let same : bytes_eq name (codes "type") ≡ true = search rules in
    let mark : c.len-mark.result ≡ length old = search rules in
    let stays : new ≡ old = c.truncate-2.ensures.items ∙ ap₂ take mark reads.all ∙ take_at old reads.added (length old) refl in
    record {
      json = reads.json;
      parsed = reads.parsed;
      meets = λ before front top m. meets_type name c.args.met reads.json c.in_ok-seen-2.seen before front old new m
          ((bytes_eq-Decides name (codes "type")).0 same) reads.is.text stays;
    }

pub read_member-returns-clause-ok : goal.read_member-returns-clause-ok
read_member-returns-clause-ok g t c =
    let name = c.args.name.now in
    let old = c.args.out.now.items in
    let reads = c.in_ok-seen-2.ensures.ok in
    let new = c.truncate-2.new.self.items in
    let value_not : bytes_eq name (codes "value") ≡ false = search rules in
    let tag_not : bytes_eq name (codes "tag") ≡ false = search rules in
    let type_not : bytes_eq name (codes "type") ≡ false = search rules in
    let mark : c.len-mark.result ≡ length old = search rules in
    let stays : new ≡ old = c.truncate-2.ensures.items ∙ ap₂ take mark reads.all ∙ take_at old reads.added (length old) refl in
    let other : is_other name ≡ true = rw (tag_not, type_not, value_not) refl in
    record {
      json = reads.json;
      parsed = reads.parsed;
      meets = λ before front top m. meets_other name c.args.met reads.json c.in_ok-seen-2.seen before front old new m other stays;
    }

pub read_member-returns-then-eq-clause-placed : goal.read_member-returns-then-eq-clause-placed
read_member-returns-then-eq-clause-placed g t c =
    let same : bytes_eq c.args.name.now (codes "value") ≡ true = search rules in
    inl (same, value_placed (all_of c.args.reader.now) c.args.depth c.args.reader.now.reader c.in_ok-seen.seen c.in_ok-seen.ensures.placed)

pub read_member-returns-then-eq-2-clause-placed : goal.read_member-returns-then-eq-2-clause-placed
read_member-returns-then-eq-2-clause-placed g t c =
    let value_not : bytes_eq c.args.name.now (codes "value") ≡ false = search rules in
    inr (value_not, refl)

pub read_member-returns-then-eq-3-clause-placed : goal.read_member-returns-then-eq-3-clause-placed
read_member-returns-then-eq-3-clause-placed g t c =
    let value_not : bytes_eq c.args.name.now (codes "value") ≡ false = search rules in
    inr (value_not, refl)

pub read_member-returns-clause-placed : goal.read_member-returns-clause-placed
read_member-returns-clause-placed g t c =
    let value_not : bytes_eq c.args.name.now (codes "value") ≡ false = search rules in
    inr (value_not, refl)

pub read_members-members-init : goal.read_members-members-init
read_members-members-init g t c = record {
  so = members_begin c.args.depth c.args.reader.now.reader c.args.out.now.items;
  counted = refl;
  on = members_on _ _ _;
}

pub read_members-returns-in_err-name-clause-err : goal.read_members-returns-in_err-name-clause-err
read_members-returns-in_err-name-clause-err g t c =
    let l = c.members in
    refused (converted (λ ms. of_members ms no_members) (members (value c.args.depth) (length c.args.reader.now.reader) c.args.reader.now.reader))
    c.from_residual.result
    (no_key c.args.depth c.args.reader.now.reader c.args.out.now.items l.reader.reader l.met l.out.items l.invariant.so c.in_err-name.ensures.value.0)

pub read_members-returns-in_err-name-clause-there : goal.read_members-returns-in_err-name-clause-there
read_members-returns-in_err-name-clause-there g t c =
    let l = c.members in
    let e = c.in_err-name.field-0.0 in
    let total = all_of c.args.reader.now in
    let here : total - l.reader.taken ≡ length l.reader.reader = omega (arith, l.invariant.counted) in
    let there =
    no_key_there total c.args.depth c.args.reader.now.reader l.reader.reader l.met l.invariant.on c.in_err-name.ensures.value.0 l.reader.taken here in
    let all : StopsInMembers total c.args.depth c.args.reader.now.reader e =
    subst (StopsInMembers total c.args.depth c.args.reader.now.reader) (sym c.in_err-name.ensures.value.1) there in
    search rules

pub read_members-returns-in_err-met-clause-err : goal.read_members-returns-in_err-met-clause-err
read_members-returns-in_err-met-clause-err g t c =
    let l = c.members in
    let e = c.in_err-met.field-0.0 in
    let s = c.next_key.new.self.reader in
    let named : read_key l.reader.reader ≡ Some (Some c.in-Some.name.now, s) = grind arith in
    let all : Stops (converted (λ ms. of_members ms no_members) (members (value c.args.depth) (length c.args.reader.now.reader) c.args.reader.now.reader)) e =
    members_stop c.args.depth c.args.reader.now.reader c.args.out.now.items l.reader.reader l.met l.out.items l.invariant.so c.in-Some.name.now s named e
    c.in_err-met.ensures.err in
    search rules

pub read_members-returns-in_err-met-clause-there : goal.read_members-returns-in_err-met-clause-there
read_members-returns-in_err-met-clause-there g t c =
    let l = c.members in
    let e = c.in_err-met.field-0.0 in
    let s = c.next_key.new.self.reader in
    let total = all_of c.args.reader.now in
    let named : read_key l.reader.reader ≡ Some (Some c.in-Some.name.now, s) = grind arith in
    let count : all_of c.next_key.new.self ≡ total = c.in_ok-name.ensures.counted ∙ l.invariant.counted in
    let there : StopsThere total c.args.depth s e = subst (λ n. StopsThere n c.args.depth s e) count c.in_err-met.ensures.there in
    let all : StopsInMembers total c.args.depth c.args.reader.now.reader e =
    members_on_stop total c.args.depth c.args.reader.now.reader l.reader.reader l.met l.invariant.on c.in-Some.name.now s named e there in
    search rules

pub read_members-members-preserved : goal.read_members-members-preserved
read_members-members-preserved g t c =
    let l = c.members in
    let old = c.args.out.now.items in
    let s = c.next_key.new.self.reader in
    let rest = c.read_member.new.reader.reader in
    let new = c.read_member.new.out.items in
    let total = all_of c.args.reader.now in
    let named : read_key l.reader.reader ≡ Some (Some c.in-Some.name.now, s) = grind arith in
    let mark : c.len-top.result ≡ length old = search rules in
    let count : all_of c.next_key.new.self ≡ total = c.in_ok-name.ensures.counted ∙ l.invariant.counted in
    let reads = subst (λ n. ReadsMember c.args.depth c.in-Some.name.now s rest n l.out.items new l.met c.in_ok-met.met) mark c.in_ok-met.ensures.ok in
    record {
      so = members_turn c.args.depth c.args.reader.now.reader old l.reader.reader l.met l.out.items l.invariant.so c.in-Some.name.now s rest new
          c.in_ok-met.met named reads c.in_ok-met.ensures.shorter;
      counted = c.in_ok-met.ensures.counted ∙ count;
      on = members_on_turn total c.args.depth c.args.reader.now.reader l.reader.reader l.met l.invariant.on c.in-Some.name.now s rest reads.json
          c.in_ok-met.met named reads.parsed
          (subst (λ n. MeetsPlaced n c.args.depth c.in-Some.name.now s l.met c.in_ok-met.met) count c.in_ok-met.ensures.placed);
    }

pub read_members-returns-clause-ok : goal.read_members-returns-clause-ok
read_members-returns-clause-ok g t c =
    let l = c.members in
    let old = c.args.out.now.items in
    let mark : length old ≡ c.len-top.result = search rules in
    members_end c.args.depth c.args.reader.now.reader old l.reader.reader l.met l.out.items l.invariant.so c.next_key.new.self.reader
    c.end_item.new.out.items (unplaced c.in_ok-end_item.field-0) (grind arith)
    (c.in_ok-end_item.ensures.adds l.invariant.so.json old mark l.invariant.so.meets)

pub read_members-returns-clause-placed : goal.read_members-returns-clause-placed
read_members-returns-clause-placed g t c =
    let l = c.members in
    let old = c.args.out.now.items in
    let new = c.end_item.new.out.items in
    let rest = c.next_key.new.self.reader in
    let item = c.in_ok-end_item.field-0 in
    let mark : length old ≡ c.len-top.result = search rules in
    let key : read_key l.reader.reader ≡ Some (None, rest) = grind arith in
    let parsed = members_parsed c.args.depth c.args.reader.now.reader old l.reader.reader l.met l.out.items l.invariant.so rest key in
    members_placed (all_of c.args.reader.now) c.args.depth c.args.reader.now.reader l.reader.reader l.met l.invariant.on c.args.at rest l.invariant.so.json
    old new item key parsed (c.in_ok-end_item.ensures.adds l.invariant.so.json old mark l.invariant.so.meets)
    (c.in_ok-end_item.ensures.placed l.invariant.so.json old l.invariant.so.meets)

-- ---- a value

pub read_value-returns-in_default-clause-err : goal.read_value-returns-in_default-clause-err
read_value-returns-in_default-clause-err g t c =
    let empty : c.args.reader.now.reader ≡ [] = grind arith in
    ap (converted of_json) (ap (value c.args.depth) empty ∙ value_is c.args.depth [])

pub read_value-returns-in_default-clause-there : goal.read_value-returns-in_default-clause-there
read_value-returns-in_default-clause-there g t c =
    let empty : c.args.reader.now.reader ≡ [] = grind arith in
    stopped (all_of c.args.reader.now) c.args.depth c.args.reader.now.reader c.args.reader.now.taken (omega arith) (ap (begins_value c.args.depth) empty)

pub read_value-returns-then-depth-eq0-clause-err : goal.read_value-returns-then-depth-eq0-clause-err
unfolding value
read_value-returns-then-depth-eq0-clause-err g t c =
    let first : c.args.reader.now.reader ≡ token_of c.in-Some.token ∷ c.next.new.self.reader = grind arith in
    let none : c.args.depth ≡ 0 = omega arith in
    ap (converted of_json) (ap₂ value none (first ∙ ap (λ k. token_of k ∷ c.next.new.self.reader) c.in-BeginArray.is))

pub read_value-returns-then-depth-eq0-2-clause-err : goal.read_value-returns-then-depth-eq0-2-clause-err
unfolding value
read_value-returns-then-depth-eq0-2-clause-err g t c =
    let first : c.args.reader.now.reader ≡ token_of c.in-Some.token ∷ c.next.new.self.reader = grind arith in
    let none : c.args.depth ≡ 0 = omega arith in
    ap (converted of_json) (ap₂ value none (first ∙ ap (λ k. token_of k ∷ c.next.new.self.reader) c.in-BeginObject.is))

pub read_value-returns-in_err-read_items-in-BeginArray-clause-err : goal.read_value-returns-in_err-read_items-in-BeginArray-clause-err
read_value-returns-in_err-read_items-in-BeginArray-clause-err g t c =
    let s = c.next.new.self.reader in
    let first : c.args.reader.now.reader ≡ token_of c.in-Some.token ∷ s = grind arith in
    let opened = array_opened c.args.depth c.args.reader.now.reader s (first ∙ ap (λ k. token_of k ∷ s) c.in-BeginArray.is) (omega arith) in
    let e = c.in_err-read_items-in-BeginArray.field-0.0 in
    let all : Stops (converted of_json (value c.args.depth c.args.reader.now.reader)) e =
    stops_in array _ _ opened e c.in_err-read_items-in-BeginArray.ensures.err in
    search rules

pub read_value-returns-in_err-read_members-in-BeginObject-clause-err : goal.read_value-returns-in_err-read_members-in-BeginObject-clause-err
read_value-returns-in_err-read_members-in-BeginObject-clause-err g t c =
    let s = c.next.new.self.reader in
    let first : c.args.reader.now.reader ≡ token_of c.in-Some.token ∷ s = grind arith in
    let opened = object_opened c.args.depth c.args.reader.now.reader s (first ∙ ap (λ k. token_of k ∷ s) c.in-BeginObject.is) (omega arith) in
    let e = c.in_err-read_members-in-BeginObject.field-0.0 in
    let all : Stops (converted of_json (value c.args.depth c.args.reader.now.reader)) e =
    stops_in object _ _ opened e c.in_err-read_members-in-BeginObject.ensures.err in
    search rules

pub read_value-returns-in-String-clause-ok : goal.read_value-returns-in-String-clause-ok
read_value-returns-in-String-clause-ok g t c =
    let first : c.args.reader.now.reader ≡ token_of c.in-Some.token ∷ c.next.new.self.reader = grind arith in
    let is : c.args.reader.now.reader ≡ Token.string c.in-String.text.now ∷ c.next.new.self.reader = grind (arith, first) in
    plain_read c.args.depth c.args.reader.now.reader c.next.new.self.reader c.args.out.now.items (string c.in-String.text.now) (Text c.in-String.text)
    (ap (converted of_json) (ap (value c.args.depth) is ∙ value_is c.args.depth _))
    (record { text = refl; truth = refl; whole = refl; below = refl; item = refl; array = refl })

pub read_value-returns-in-Bool-clause-ok : goal.read_value-returns-in-Bool-clause-ok
read_value-returns-in-Bool-clause-ok g t c =
    let first : c.args.reader.now.reader ≡ token_of c.in-Some.token ∷ c.next.new.self.reader = grind arith in
    let is : c.args.reader.now.reader ≡ Token.boolean c.in-Bool.truth ∷ c.next.new.self.reader = grind (arith, first) in
    plain_read c.args.depth c.args.reader.now.reader c.next.new.self.reader c.args.out.now.items (boolean c.in-Bool.truth) (Truth c.in-Bool.truth)
    (ap (converted of_json) (ap (value c.args.depth) is ∙ value_is c.args.depth _))
    (record { text = refl; truth = refl; whole = refl; below = refl; item = refl; array = refl })

pub read_value-returns-in-Null-clause-ok : goal.read_value-returns-in-Null-clause-ok
read_value-returns-in-Null-clause-ok g t c =
    let first : c.args.reader.now.reader ≡ token_of c.in-Some.token ∷ c.next.new.self.reader = grind arith in
    let is : c.args.reader.now.reader ≡ Token.null ∷ c.next.new.self.reader = grind (arith, first) in
    plain_read c.args.depth c.args.reader.now.reader c.next.new.self.reader c.args.out.now.items null Null
    (ap (converted of_json) (ap (value c.args.depth) is ∙ value_is c.args.depth _))
    (record { text = refl; truth = refl; whole = refl; below = refl; item = refl; array = refl })

pub read_value-returns-then-is_in_range-clause-ok : goal.read_value-returns-then-is_in_range-clause-ok
read_value-returns-then-is_in_range-clause-ok g t c =
    let s = c.in-Number.text.now in
    let first : c.args.reader.now.reader ≡ token_of c.in-Some.token ∷ c.next.new.self.reader = grind arith in
    let is : c.args.reader.now.reader ≡ Token.number s ∷ c.next.new.self.reader = grind (arith, first) in
    let there : is_some (number_of s) ≡ true = sym c.is_in_range.ensures ∙ c.if-is_in_range.true in
    let n = number_there (number_of s) there in
    plain_read c.args.depth c.args.reader.now.reader c.next.new.self.reader c.args.out.now.items (number n.0) (Number c.whole_of.result)
    (ap (converted of_json) (ap (value c.args.depth) is ∙ value_is c.args.depth _)
    ∙ ap (λ o. option_map (λ b. (b, c.next.new.self.reader)) (option_map number o)) n.1)
    (record { text = refl; truth = refl; whole = sym (c.whole_of.ensures ∙ ap (option_and_then whole_num) n.1); below = refl; item = refl; array = refl })

pub read_value-returns-else-is_in_range-clause-err : goal.read_value-returns-else-is_in_range-clause-err
read_value-returns-else-is_in_range-clause-err g t c =
    let s = c.in-Number.text.now in
    let first : c.args.reader.now.reader ≡ token_of c.in-Some.token ∷ c.next.new.self.reader = grind arith in
    let is : c.args.reader.now.reader ≡ Token.number s ∷ c.next.new.self.reader = grind (arith, first) in
    let none = number_lacks (number_of s) (sym c.is_in_range.ensures ∙ c.if-is_in_range.false) in
    ap (converted of_json) (ap (value c.args.depth) is ∙ value_is c.args.depth _)
    ∙ ap (λ o. option_map (λ b. (b, c.next.new.self.reader)) (option_map number o)) none

pub read_value-returns-in-EndObject-clause-err : goal.read_value-returns-in-EndObject-clause-err
read_value-returns-in-EndObject-clause-err g t c =
    let first : c.args.reader.now.reader ≡ token_of c.in-Some.token ∷ c.next.new.self.reader = grind arith in
    let none : value c.args.depth c.args.reader.now.reader ≡ None = rw (value_is c.args.depth c.args.reader.now.reader, first) (grind arith) in
    ap (converted of_json) none

pub read_value-returns-in_ok-read_items-in-BeginArray-clause-ok : goal.read_value-returns-in_ok-read_items-in-BeginArray-clause-ok
read_value-returns-in_ok-read_items-in-BeginArray-clause-ok g t c =
    let s = c.next.new.self.reader in
    let first : c.args.reader.now.reader ≡ token_of c.in-Some.token ∷ s = grind arith in
    let opened = array_opened c.args.depth c.args.reader.now.reader s (first ∙ ap (λ k. token_of k ∷ s) c.in-BeginArray.is) (omega arith) in
    array_read c.args.depth c.args.reader.now.reader c.read_items.new.reader.reader c.args.out.now.items (c.args.depth - 1) s c.read_items.new.out.items
    c.in_ok-read_items-in-BeginArray.field-0 opened c.in_ok-read_items-in-BeginArray.ensures.ok

pub read_value-returns-in_ok-read_members-in-BeginObject-clause-ok : goal.read_value-returns-in_ok-read_members-in-BeginObject-clause-ok
read_value-returns-in_ok-read_members-in-BeginObject-clause-ok g t c =
    let s = c.next.new.self.reader in
    let first : c.args.reader.now.reader ≡ token_of c.in-Some.token ∷ s = grind arith in
    let opened = object_opened c.args.depth c.args.reader.now.reader s (first ∙ ap (λ k. token_of k ∷ s) c.in-BeginObject.is) (omega arith) in
    object_read c.args.depth c.args.reader.now.reader c.read_members.new.reader.reader c.args.out.now.items (c.args.depth - 1) s c.read_members.new.out.items
    c.in_ok-read_members-in-BeginObject.field-0 opened c.in_ok-read_members-in-BeginObject.ensures.ok

pub read_value-returns-then-depth-eq0-clause-there : goal.read_value-returns-then-depth-eq0-clause-there
read_value-returns-then-depth-eq0-clause-there g t c =
    let first : c.args.reader.now.reader ≡ token_of c.in-Some.token ∷ c.next.new.self.reader = grind arith in
    let zero : c.args.depth ≡ 0 = omega arith in
    let none : begins_value c.args.depth c.args.reader.now.reader ≡ false =
    ap₂ begins_value zero (first ∙ ap (λ k. token_of k ∷ c.next.new.self.reader) c.in-BeginArray.is) in
    stopped (all_of c.args.reader.now) c.args.depth c.args.reader.now.reader c.args.reader.now.taken (omega arith) none

pub read_value-returns-then-depth-eq0-2-clause-there : goal.read_value-returns-then-depth-eq0-2-clause-there
read_value-returns-then-depth-eq0-2-clause-there g t c =
    let first : c.args.reader.now.reader ≡ token_of c.in-Some.token ∷ c.next.new.self.reader = grind arith in
    let zero : c.args.depth ≡ 0 = omega arith in
    let none : begins_value c.args.depth c.args.reader.now.reader ≡ false =
    ap₂ begins_value zero (first ∙ ap (λ k. token_of k ∷ c.next.new.self.reader) c.in-BeginObject.is) in
    stopped (all_of c.args.reader.now) c.args.depth c.args.reader.now.reader c.args.reader.now.taken (omega arith) none

pub read_value-returns-else-is_in_range-clause-there : goal.read_value-returns-else-is_in_range-clause-there
read_value-returns-else-is_in_range-clause-there g t c =
    let first : c.args.reader.now.reader ≡ token_of c.in-Some.token ∷ c.next.new.self.reader = grind arith in
    let is : c.args.reader.now.reader ≡ Token.number c.in-Number.text.now ∷ c.next.new.self.reader = grind (arith, first) in
    let none : begins_value c.args.depth c.args.reader.now.reader ≡ false =
    ap (begins_value c.args.depth) is ∙ sym c.is_in_range.ensures ∙ c.if-is_in_range.false in
    stopped (all_of c.args.reader.now) c.args.depth c.args.reader.now.reader c.args.reader.now.taken (omega arith) none

pub read_value-returns-in-EndObject-clause-there : goal.read_value-returns-in-EndObject-clause-there
read_value-returns-in-EndObject-clause-there g t c =
    let first : c.args.reader.now.reader ≡ token_of c.in-Some.token ∷ c.next.new.self.reader = grind arith in
    let none : begins_value c.args.depth c.args.reader.now.reader ≡ false = rw first (grind arith) in
    stopped (all_of c.args.reader.now) c.args.depth c.args.reader.now.reader c.args.reader.now.taken (omega arith) none

pub read_value-returns-in_err-read_items-in-BeginArray-clause-there : goal.read_value-returns-in_err-read_items-in-BeginArray-clause-there
read_value-returns-in_err-read_items-in-BeginArray-clause-there g t c =
    let s = c.next.new.self.reader in
    let total = all_of c.args.reader.now in
    let first : c.args.reader.now.reader ≡ token_of c.in-Some.token ∷ c.next.new.self.reader = grind arith in
    let is : c.args.reader.now.reader ≡ Token.begin_array ∷ s = first ∙ ap (λ k. token_of k ∷ s) c.in-BeginArray.is in
    let e = c.in_err-read_items-in-BeginArray.field-0.0 in
    let stop = subst (λ n. StopsInItems n (c.args.depth - 1) s e) c.next.ensures.counted c.in_err-read_items-in-BeginArray.ensures.there in
    let all : StopsThere total c.args.depth c.args.reader.now.reader e =
    array_stops total c.args.depth c.args.reader.now.reader s (omega arith) is e stop in
    search rules

pub read_value-returns-in_err-read_members-in-BeginObject-clause-there : goal.read_value-returns-in_err-read_members-in-BeginObject-clause-there
read_value-returns-in_err-read_members-in-BeginObject-clause-there g t c =
    let s = c.next.new.self.reader in
    let total = all_of c.args.reader.now in
    let first : c.args.reader.now.reader ≡ token_of c.in-Some.token ∷ c.next.new.self.reader = grind arith in
    let is : c.args.reader.now.reader ≡ Token.begin_object ∷ s = first ∙ ap (λ k. token_of k ∷ s) c.in-BeginObject.is in
    let e = c.in_err-read_members-in-BeginObject.field-0.0 in
    let stop = subst (λ n. StopsInMembers n (c.args.depth - 1) s e) c.next.ensures.counted c.in_err-read_members-in-BeginObject.ensures.there in
    let all : StopsThere total c.args.depth c.args.reader.now.reader e =
    object_stops total c.args.depth c.args.reader.now.reader s (omega arith) is e stop in
    search rules

pub read_value-returns-in-String-clause-placed : goal.read_value-returns-in-String-clause-placed
read_value-returns-in-String-clause-placed g t c =
    let first : c.args.reader.now.reader ≡ token_of c.in-Some.token ∷ c.next.new.self.reader = grind arith in
    let is : c.args.reader.now.reader ≡ Token.string c.in-String.text.now ∷ c.next.new.self.reader = grind (arith, first) in
    itself c.args.depth c.args.reader.now.reader c.next.new.self.reader (string c.in-String.text.now) BadMembers
    (ap (converted of_json) (ap (value c.args.depth) is ∙ value_is c.args.depth _)) refl refl

pub read_value-returns-in-Bool-clause-placed : goal.read_value-returns-in-Bool-clause-placed
read_value-returns-in-Bool-clause-placed g t c =
    let first : c.args.reader.now.reader ≡ token_of c.in-Some.token ∷ c.next.new.self.reader = grind arith in
    let is : c.args.reader.now.reader ≡ Token.boolean c.in-Bool.truth ∷ c.next.new.self.reader = grind (arith, first) in
    itself c.args.depth c.args.reader.now.reader c.next.new.self.reader (boolean c.in-Bool.truth) BadMembers
    (ap (converted of_json) (ap (value c.args.depth) is ∙ value_is c.args.depth _)) refl refl

pub read_value-returns-in-Null-clause-placed : goal.read_value-returns-in-Null-clause-placed
read_value-returns-in-Null-clause-placed g t c =
    let first : c.args.reader.now.reader ≡ token_of c.in-Some.token ∷ c.next.new.self.reader = grind arith in
    let is : c.args.reader.now.reader ≡ Token.null ∷ c.next.new.self.reader = grind (arith, first) in
    itself c.args.depth c.args.reader.now.reader c.next.new.self.reader (null) BadMembers
    (ap (converted of_json) (ap (value c.args.depth) is ∙ value_is c.args.depth _)) refl refl

pub read_value-returns-then-is_in_range-clause-placed : goal.read_value-returns-then-is_in_range-clause-placed
read_value-returns-then-is_in_range-clause-placed g t c =
    let s = c.in-Number.text.now in
    let first : c.args.reader.now.reader ≡ token_of c.in-Some.token ∷ c.next.new.self.reader = grind arith in
    let is : c.args.reader.now.reader ≡ Token.number s ∷ c.next.new.self.reader = grind (arith, first) in
    let there : is_some (number_of s) ≡ true = sym c.is_in_range.ensures ∙ c.if-is_in_range.true in
    let n = number_there (number_of s) there in
    itself c.args.depth c.args.reader.now.reader c.next.new.self.reader (number n.0) BadMembers
    (ap (converted of_json) (ap (value c.args.depth) is ∙ value_is c.args.depth _)
    ∙ ap (λ o. option_map (λ b. (b, c.next.new.self.reader)) (option_map number o)) n.1) refl refl

pub read_value-returns-in_ok-read_items-in-BeginArray-clause-placed : goal.read_value-returns-in_ok-read_items-in-BeginArray-clause-placed
read_value-returns-in_ok-read_items-in-BeginArray-clause-placed g t c =
    let s = c.next.new.self.reader in
    let total = all_of c.args.reader.now in
    let first : c.args.reader.now.reader ≡ token_of c.in-Some.token ∷ c.next.new.self.reader = grind arith in
    let is : c.args.reader.now.reader ≡ Token.begin_array ∷ s = first ∙ ap (λ k. token_of k ∷ s) c.in-BeginArray.is in
    let h = c.in_ok-read_items-in-BeginArray.ensures.ok in
    let r = c.in_ok-read_items-in-BeginArray.field-0 in
    let p = subst (λ n. ArePlaced n (c.args.depth - 1) s r) c.next.ensures.counted c.in_ok-read_items-in-BeginArray.ensures.placed in
    array_placed total c.args.depth c.args.reader.now.reader s (omega arith) is c.read_items.new.reader.reader h.json
    (array_opened c.args.depth c.args.reader.now.reader s is (omega arith) ∙ ap (parse_map array) h.parsed) r p

pub read_value-returns-in_ok-read_members-in-BeginObject-clause-placed : goal.read_value-returns-in_ok-read_members-in-BeginObject-clause-placed
read_value-returns-in_ok-read_members-in-BeginObject-clause-placed g t c =
    let s = c.next.new.self.reader in
    let total = all_of c.args.reader.now in
    let first : c.args.reader.now.reader ≡ token_of c.in-Some.token ∷ c.next.new.self.reader = grind arith in
    let is : c.args.reader.now.reader ≡ Token.begin_object ∷ s = first ∙ ap (λ k. token_of k ∷ s) c.in-BeginObject.is in
    let r = c.in_ok-read_members-in-BeginObject.field-0 in
    let at = c.args.reader.now.taken in
    let p = subst (λ n. IsItemPlaced n (c.args.depth - 1) at s r) c.next.ensures.counted c.in_ok-read_members-in-BeginObject.ensures.placed in
    let opened = object_opened c.args.depth c.args.reader.now.reader s is (omega arith) in
    object_placed total c.args.depth c.args.reader.now.reader s (omega arith) is at (omega arith) (λ ms rest e. opened ∙ ap (parse_map object) e) r p
