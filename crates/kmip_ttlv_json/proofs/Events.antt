-- JSON read event by event: the loops over an array's items and an object's members, a turn at a time.
use Rattle.std.proofs.Common.{◌≡◌, ◌∙◌, ℕ, ◌+◌, ◌-◌, ◌<◌, ◌≤◌, ◌^◌, Bool, true, false, List, [], ◌∷◌, ◌++◌, length, take, Option, Some, None}
use Rattle.std.proofs.Common.{Result, Ok, Err, refl, ap, sym, subst}
use Rattle.std.proofs.Common.{arith, append_assoc, append-nil}
use Rattle.std.proofs.lemmas.List.{take_at}
use Rattle.std.specs.Prelude.{is_some, IfErr}
use Rattle.json.specs.Token.{Token, begin_array, begin_object}
use Rattle.json.specs.Json.{parse_map, after_end_array, read_key, items, members, value}
use Rattle.json.proofs.Grammar.{read_key-shorter, value-begin_array, value-begin_object}
use Rattle.serde_json.specs.Data.{Num, Data, array, object, Items, no_items, item, Members, no_members}
use Rattle.serde_json.specs.Read.{of_json, of_items, of_members, converted}
use Rattle.kmip_ttlv_types.specs.Trees.{Tree, no_trees, bytes, bytes_below, IsStructure, Fits}
use Rattle.kmip_ttlv_json.specs.declared.failure.{BadItem.BadItem, BadMember.BadMember}
use Rattle.kmip_ttlv_json.specs.declared.seen.Seen.{Seen}
use Rattle.kmip_ttlv_json.specs.declared.seen.Seen.TheVariants.{Text, Truth, Items as SeenItems, Item as SeenItem, Number, Null}
use Rattle.kmip_ttlv_json.specs.declared.members.Members.{Members as SeenMembers}
use Rattle.kmip_ttlv_json.specs.declared.read.Stop.{Stop}
use Rattle.kmip_ttlv_json.specs.declared.read.Stop.TheVariants.{NotJson, NoMemory}
use Rattle.kmip_ttlv_json.specs.JsonTrees.{tree_of, trees_of, both}
use Rattle.kmip_ttlv_json.specs.Events.{unplaced, item_at, both_at, both_seen, kept, item_in, room, AddsItem, IsItem, Stops, IsSeen, Reads}
use Rattle.kmip_ttlv_json.specs.Events.{ReadsItems, ReadsMember, ReadsMembers, ReadsText, Meets}
use Rattle.kmip_ttlv_json.specs.Readings.{ReadsAs, IsReadAs}
use Rattle.kmip_ttlv_json.proofs.Converted.{converted_array, converted_object, item_read, item_refused, items_over, member_read, member_refused}
use Rattle.kmip_ttlv_json.proofs.Converted.{key_refused, members_over}
use Rattle.kmip_ttlv_json.proofs.ReadingBack.{before, before_bad, before_end, Begun, begun_more, structure_fits, structure_is_long, added_alone}

mapped_twice : {A B C : Type 0} (f : B → C) (g : A → B) (r : Option (A × List Token)) → parse_map f (parse_map g r) ≡ parse_map (λ a. f (g a)) r
mapped_twice f g None = refl
mapped_twice f g (Some p) = refl

same_mapped : {A : Type 0} (r : Option (A × List Token)) → r ≡ parse_map (λ a. a) r
same_mapped None = refl
same_mapped (Some p) = refl

-- ---- what is wrong, without its place

pub same_item : (at : ℕ) (seen : Seen) → unplaced (item_at at seen) ≡ item_in seen
same_item at (SeenItem r) = refl
same_item at (SeenItems r) = refl
same_item at (Text s) = refl
same_item at (Truth b) = refl
same_item at (Number w) = refl
same_item at Null = refl

same_both : (items : Result (Unit {0}) BadItem) (one : Result Bool BadItem) → unplaced (both_at items one) ≡ both_seen (unplaced items) (unplaced one)
same_both (Ok done) (Ok structure) = refl
same_both (Ok done) (Err bad) = refl
same_both (Err bad) one = refl

pub both_plain : (items : Result (Unit {0}) BadItem) (at : ℕ) (seen : Seen)
    → unplaced (both_at items (item_at at seen)) ≡ both_seen (unplaced items) (item_in seen)
both_plain items at seen = same_both items (item_at at seen) ∙ ap (both_seen (unplaced items)) (same_item at seen)

-- ---- items

-- some items of an array were read, and behind them `wrap` puts the others
abbrev pub AreSoFar : (Items → Items) → Result (Unit {0}) BadMember → List ℕ → List ℕ → Type 0
AreSoFar wrap (Ok done) old new = (rest : Items) → Begun (trees_of (wrap rest)) (trees_of rest) old new
AreSoFar wrap (Err bad) old new = (rest : Items) → trees_of (wrap rest) ≡ Err bad

pub record ItemsSoFar (depth : ℕ) (first now : List Token) (all : Result (Unit {0}) BadMember) (old new : List ℕ) : Type 0 where
  pub turns : ℕ
  pub enough : length now ≤ turns
  pub shorter : length now ≤ length first
  pub wrap : Items → Items
  pub is : converted of_items (items (value depth) (length first) first) ≡ parse_map wrap (converted of_items (items (value depth) turns now))
  pub added : List ℕ
  pub bytes_added : new ≡ (old ++ room) ++ added
  pub are : AreSoFar wrap all (old ++ room) new

-- bytes that were added, of which these are kept
kept_bytes : (all : Result (Unit {0}) BadMember) (front added more out mid new : List ℕ) → out ≡ front ++ added → mid ≡ out ++ more
    → new ≡ kept (length out) all mid → (left : List ℕ) × (new ≡ front ++ left)
kept_bytes (Ok done) front added more out mid new a b c = (added ++ more, c ∙ b ∙ ap (λ (s : List ℕ). s ++ more) a ∙ append_assoc front added more)
kept_bytes (Err bad) front added more out mid new a b c =
    (added, c ∙ ap (take (length out)) b ∙ take_at out more (length out) refl ∙ a)

turn_are : (wrap : Items → Items) (all : Result (Unit {0}) BadMember) (one : Result Bool BadMember) (d : Data) (front out mid new added : List ℕ)
    → AreSoFar wrap all front out → mid ≡ out ++ added → IsItem (tree_of d) one added → new ≡ kept (length out) (both_seen all one) mid
    → AreSoFar (λ ds. wrap (item d ds)) (both_seen all one) front new
turn_are wrap (Ok done) (Ok structure) d front out mid new added so more is k = λ rest.
    let b = subst (λ r. Begun (trees_of (wrap (item d rest))) (both r (trees_of rest)) front out) is.1 (so (item d rest)) in
    begun_more (trees_of (wrap (item d rest))) (trees_of rest) front out new is.0 b (k ∙ more ∙ ap (λ (s : List ℕ). out ++ s) is.3)
turn_are wrap (Ok done) (Err bad) d front out mid new added so more is k = λ rest.
    let b = so (item d rest) in
    b.is ∙ ap (λ r. before b.done (both r (trees_of rest))) is ∙ before_bad b.done bad
turn_are wrap (Err bad) one d front out mid new added so more is k = λ rest. so (item d rest)

module _ (depth : ℕ) (first : List Token) (old : List ℕ) where
  pub items_begin : (new : List ℕ) → new ≡ old ++ room → ItemsSoFar depth first first (Ok tt) old new
  items_begin new e =
      let all : new ≡ (old ++ room) ++ [] = e ∙ sym (append-nil (old ++ room)) in
      record {
        turns = length first;
        enough = omega arith;
        shorter = omega arith;
        wrap = λ ds. ds;
        is = same_mapped _;
        added = [];
        bytes_added = all;
        are = λ rest. record { done = no_trees; is = refl; all = all };
      }

  module _ (now : List Token) (all : Result (Unit {0}) BadMember) (out : List ℕ) (so : ItemsSoFar depth first now all old out) where
    pub items_turn : (going : after_end_array now ≡ None) (rest : List Token) (mid new : List ℕ) (seen : Seen) → Reads depth now rest out mid seen
        → length rest < length now → new ≡ kept (length out) (both_seen all (item_in seen)) mid
        → ItemsSoFar depth first rest (both_seen all (item_in seen)) old new
    items_turn going rest mid new seen reads less k =
        let p = value depth in
        let d = reads.json in
        let turn = item_read p so.turns now rest d (omega (arith, so.enough)) going reads.parsed in
        let left = kept_bytes (both_seen all (item_in seen)) (old ++ room) so.added reads.added out mid new so.bytes_added reads.all k in
        record {
          turns = so.turns - 1;
          enough = omega (arith, so.enough);
          shorter = omega (arith, so.shorter);
          wrap = λ ds. so.wrap (item d ds);
          is = so.is ∙ ap (parse_map so.wrap) turn ∙ mapped_twice so.wrap (item d) _;
          added = left.0;
          bytes_added = left.1;
          are = turn_are so.wrap all (item_in seen) d (old ++ room) out mid new reads.added so.are reads.all reads.is.item k;
        }

    pub items_stop : (going : after_end_array now ≡ None) (e : Stop) → Stops (converted of_json (value depth now)) e
        → Stops (converted of_items (items (value depth) (length first) first)) e
    items_stop going (NotJson at) h = so.is ∙ ap (parse_map so.wrap) (item_refused (value depth) so.turns now going h)
    items_stop going NoMemory h = tt

  pub items_end : (now : List Token) (all : Result (Unit {0}) BadMember) (out : List ℕ) → ItemsSoFar depth first now all old out → (rest : List Token)
      → after_end_array now ≡ Some rest → ReadsItems depth first rest old out all
  items_end now (Ok done) out so rest e =
      let b = so.are no_items in
      record {
        json = so.wrap no_items;
        parsed = so.is ∙ ap (parse_map so.wrap) (items_over (value depth) so.turns now rest so.enough e);
        added = room ++ bytes_below b.done;
        all = b.all ∙ append_assoc old room (bytes_below b.done);
        are = (b.done, b.is ∙ before_end b.done, refl);
      }
  items_end now (Err bad) out so rest e =
      record {
        json = so.wrap no_items;
        parsed = so.is ∙ ap (parse_map so.wrap) (items_over (value depth) so.turns now rest so.enough e);
        added = room ++ so.added;
        all = so.bytes_added ∙ append_assoc old room so.added;
        are = so.are no_items;
      }

-- ---- members

pub record MembersSoFar (depth : ℕ) (first now : List Token) (met : SeenMembers) (old new : List ℕ) : Type 0 where
  pub turns : ℕ
  pub enough : length now ≤ turns
  pub shorter : length now ≤ length first
  pub json : Members
  pub is : converted (λ ms. of_members ms no_members) (members (value depth) (length first) first)
      ≡ converted (λ ms. of_members ms json) (members (value depth) turns now)
  pub meets : Meets json met old new

abbrev pub none_met : SeenMembers
none_met = record { tag = None; typ = None; value = None; others = false }

module _ (depth : ℕ) (first : List Token) (old : List ℕ) where
  pub members_begin : MembersSoFar depth first first none_met old old
  members_begin = record {
    turns = length first;
    enough = omega arith;
    shorter = omega arith;
    json = no_members;
    is = refl;
    meets = record {
      added = [];
      all = sym (append-nil old);
      are = record { tag = None; typ = None; value = None; are = refl; has_tag = tt; has_type = tt; has_value = tt };
    };
  }

  module _ (now : List Token) (met : SeenMembers) (out : List ℕ) (so : MembersSoFar depth first now met old out) where
    pub members_turn : (name : List ℕ) (s rest : List Token) (new : List ℕ) (next : SeenMembers) → read_key now ≡ Some (Some name, s)
        → ReadsMember depth name s rest (length old) out new met next → length rest < length s → MembersSoFar depth first rest next old new
    members_turn name s rest new next key reads less =
        let fewer = read_key-shorter now (Some name) s key in
        record {
          turns = so.turns - 1;
          enough = omega (arith, so.enough, fewer);
          shorter = omega (arith, so.shorter, fewer);
          json = _;
          is = so.is ∙ member_read (value depth) so.json so.turns name now s rest reads.json (omega (arith, so.enough, fewer)) key reads.parsed;
          meets = reads.meets so.json old refl so.meets;
        }

    pub members_stop : (name : List ℕ) (s : List Token) → read_key now ≡ Some (Some name, s) → (e : Stop)
        → Stops (converted of_json (value depth s)) e
        → Stops (converted (λ ms. of_members ms no_members) (members (value depth) (length first) first)) e
    members_stop name s key (NotJson at) h = so.is ∙ member_refused (value depth) so.json so.turns name now s key h
    members_stop name s key NoMemory h = tt

    pub no_key : read_key now ≡ None → converted (λ ms. of_members ms no_members) (members (value depth) (length first) first) ≡ None
    no_key h = so.is ∙ key_refused (value depth) so.json so.turns now h

    pub members_parsed : (rest : List Token) → read_key now ≡ Some (None, rest)
        → converted (λ ms. of_members ms no_members) (members (value depth) (length first) first) ≡ Some (so.json, rest)
    members_parsed rest e = so.is ∙ members_over (value depth) so.json so.turns now rest so.enough e

    pub members_end : (rest : List Token) (new : List ℕ) (result : Result Bool BadMember) → read_key now ≡ Some (None, rest)
        → AddsItem (tree_of (object so.json)) old new result → ReadsMembers depth first rest old new result
    members_end rest new result e adds = record {
      json = so.json;
      parsed = members_parsed rest e;
      adds = adds;
    }

-- ---- a value

-- what is none is refused, whatever the reason
stops : {A : Type 0} (read : Option A) (e : Stop) → read ≡ None → Stops read e
stops read (NotJson at) h = h
stops read NoMemory h = tt

pub refused : {A : Type 0} {T : Type 0} (read : Option A) (r : Result T Stop) → read ≡ None → IfErr r (Stops read)
refused read (Ok x) h = tt
refused read (Err e) h = stops read e h

-- what stands in something else is refused with it
pub stops_in : {A B : Type 0} (f : A → B) (whole : Option (B × List Token)) (read : Option (A × List Token)) → whole ≡ parse_map f read → (e : Stop)
    → Stops read e → Stops whole e
stops_in f whole read is (NotJson at) h = is ∙ ap (parse_map f) h
stops_in f whole read is NoMemory h = tt

module _ (depth : ℕ) (tokens rest : List Token) (old : List ℕ) where
  pub plain_read : (json : Data) (seen : Seen) → converted of_json (value depth tokens) ≡ Some (json, rest) → IsSeen seen json []
      → Reads depth tokens rest old old seen
  plain_read json seen e is = record { json = json; parsed = e; added = []; all = sym (append-nil old); is = is }

  pub array_read : (inner : ℕ) (s : List Token) (new : List ℕ) (r : Result (Unit {0}) BadItem)
      → converted of_json (value depth tokens) ≡ parse_map array (converted of_items (items (value inner) (length s) s))
      → ReadsItems inner s rest old new (unplaced r) → Reads depth tokens rest old new (SeenItems r)
  array_read inner s new r opened h = record {
    json = array h.json;
    parsed = opened ∙ ap (parse_map array) h.parsed;
    added = h.added;
    all = h.all;
    is = record { text = refl; truth = refl; whole = refl; below = h.are; item = refl; array = refl };
  }

  pub object_read : (inner : ℕ) (s : List Token) (new : List ℕ) (r : Result Bool BadItem)
      → converted of_json (value depth tokens) ≡ parse_map object (converted (λ ms. of_members ms no_members) (members (value inner) (length s) s))
      → ReadsMembers inner s rest old new (unplaced r) → Reads depth tokens rest old new (SeenItem r)
  object_read inner s new r opened h = record {
    json = object h.json;
    parsed = opened ∙ ap (parse_map object) h.parsed;
    added = h.adds.added;
    all = h.adds.all;
    is = record { text = refl; truth = refl; whole = refl; below = refl; item = h.adds.is; array = refl };
  }

pub array_opened : (depth : ℕ) (tokens s : List Token) → tokens ≡ begin_array ∷ s → 0 < depth
    → converted of_json (value depth tokens) ≡ parse_map array (converted of_items (items (value (depth - 1)) (length s) s))
array_opened depth tokens s first some =
    ap (converted of_json) (ap (value depth) first ∙ value-begin_array depth s some) ∙ converted_array (items (value (depth - 1)) (length s) s)

pub object_opened : (depth : ℕ) (tokens s : List Token) → tokens ≡ begin_object ∷ s → 0 < depth
    → converted of_json (value depth tokens) ≡ parse_map object (converted (λ ms. of_members ms no_members) (members (value (depth - 1)) (length s) s))
object_opened depth tokens s first some =
    ap (converted of_json) (ap (value depth) first ∙ value-begin_object depth s some) ∙ converted_object (members (value (depth - 1)) (length s) s)

-- a number is there if it is in range
pub number_there : (o : Option Num) → is_some o ≡ true → (n : Num) × (o ≡ Some n)
number_there None h = absurd (cc)
number_there (Some n) h = (n, refl)

pub number_lacks : (o : Option Num) → is_some o ≡ false → o ≡ None
number_lacks None h = refl
number_lacks (Some n) h = absurd (cc)

-- ---- a message

module _ (text old new : List ℕ) (item : Result Bool BadMember) (h : ReadsText text old new item) (none : old ≡ []) (root : item ≡ Ok true) where
  added : IsItem (tree_of h.json) (Ok true) h.adds.added
  added = subst (λ r. IsItem (tree_of h.json) r h.adds.added) root h.adds.is

  all_bytes : new ≡ bytes added.0
  all_bytes = added_alone old new added.0 none (h.adds.all ∙ ap (λ (s : List ℕ). old ++ s) added.3)

  reads : ReadsAs text (Ok added.0)
  reads = record { json = h.json; parsed = h.parsed; is = added.1 }

  pub too_long : 2 ^ 32 + 8 ≤ length new → (t : Tree) × ReadsAs text (Ok t) × IsStructure t × ¬ (Fits t)
  too_long long =
      let k = structure_is_long added.0 (sym added.2) (omega (arith, ap length all_bytes, long)) in
      (added.0, reads, k.0, k.1)

  pub is_read : length new < 2 ^ 32 + 8 → IsReadAs text new
  is_read short =
      let k = structure_fits added.0 (sym added.2) (omega (arith, ap length all_bytes, short)) in
      record { message = added.0; stands = record { reads = reads; root = k.0; fits = k.1 }; canonical = all_bytes }
