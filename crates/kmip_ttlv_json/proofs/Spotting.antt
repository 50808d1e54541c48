-- Where JSON stops being JSON, or an item is wrong, while it is read: the loops over an array's items and an object's members, a turn at a time.
use Rattle.std.proofs.Common.{◌≡◌, ◌≢◌, ◌∙◌, ℕ, ◌+◌, ◌-◌, ◌<◌, Bool, true, false, List, [], ◌∷◌, length, Option, Some, None, ◌⊎◌, inl, inr}
use Rattle.std.proofs.Common.{option_and_then, Result, Ok, Err, refl, ap, sym, subst, arith}
use Rattle.json.specs.Token.{Token}
use Rattle.json.specs.Json.{after_end_array, read_key, if_last, members, value}
use Rattle.json.specs.Lex.{tokens}
use Rattle.serde_json.specs.Data.{Data, array, object, Items, Members, no_members}
use Rattle.serde_json.specs.Read.{converted, of_json, of_members, max_depth, read}
use Rattle.kmip_ttlv_json.proofs.Converted.{converted_some}
use Rattle.kmip_ttlv_types.specs.Trees.{Tree}
use Rattle.kmip_ttlv_json.specs.declared.failure.BadItem.{BadItem}
use Rattle.kmip_ttlv_json.specs.declared.failure.BadMember.TheVariants.{Members as BadMembers}
use Rattle.kmip_ttlv_json.specs.declared.members.Members.{Members as SeenMembers}
use Rattle.kmip_ttlv_json.specs.declared.read.Stop.{Stop}
use Rattle.kmip_ttlv_json.specs.declared.read.Stop.TheVariants.{NotJson, NoMemory}
use Rattle.kmip_ttlv_json.specs.declared.seen.Seen.{Seen}
use Rattle.kmip_ttlv_json.specs.declared.seen.Seen.TheVariants.{Text, Truth, Items as SeenItems, Item as SeenItem, Number, Null}
use Rattle.kmip_ttlv_json.specs.JsonTrees.{tree_of}
use Rattle.kmip_ttlv_json.specs.Events.{both_at, item_at, item_in, unplaced, IsItem, AddsItem}
use Rattle.kmip_ttlv_json.specs.Spots.{Gives, StopsAt, ItemsStopAt, MembersStopAt, no_value, in_array, in_object, in_item, behind_item, no_member, in_member}
use Rattle.kmip_ttlv_json.specs.Spots.{behind_member, begins_value, is_open, LastValue, no_more, this_value, another, Blames, BlamesArray, BlamesFirst, itself}
use Rattle.kmip_ttlv_json.specs.Spots.{in_value, in_items, the_first, a_later, StopsThere, StopsInItems, StopsInMembers, ArePlaced, IsPlaced, IsValuePlaced}
use Rattle.kmip_ttlv_json.specs.Spots.{MeetsPlaced, IsEndPlaced, BlamesMembers, IsItemPlaced, TextStopsAt, StopsInText, IsTextPlaced}

-- where something wrong is said to be
abbrev pub at_in : {A : Type 0} → Result A BadItem → ℕ
at_in (Ok a) = 0
at_in (Err bad) = bad.at

-- ---- a value as an item

module _ (total depth : ℕ) (ts : List Token) (at : ℕ) (here : total - at ≡ length ts) where
  -- a value that is wrong itself
  moved : Blames depth ts (length ts) → (k : ℕ) → at ≡ k → Blames depth ts (total - k)
  moved b k e = subst (λ n. Blames depth ts n) (sym here ∙ ap (λ (j : ℕ). total - j) e) b

  pub stopped : begins_value depth ts ≡ false → StopsAt depth ts (total - at)
  stopped none = subst (λ n. StopsAt depth ts n) (sym here) (no_value depth ts none)

  pub item_placed : (seen : Seen) → IsPlaced total depth ts seen → (bad : BadItem) → item_at at seen ≡ Err bad → Blames depth ts (total - bad.at)
  item_placed (SeenItem (Ok s)) p bad e = absurd (cc)
  item_placed (SeenItem (Err b)) p bad e = subst (λ (n : ℕ). Blames depth ts (total - n)) (ap at_in e) p
  item_placed (SeenItems (Ok u)) p bad e = moved p bad.at (ap at_in e)
  item_placed (SeenItems (Err b)) p bad e = moved p.0 bad.at (ap at_in e)
  item_placed (Text s) p bad e = moved p bad.at (ap at_in e)
  item_placed (Truth b) p bad e = moved p bad.at (ap at_in e)
  item_placed (Number w) p bad e = moved p bad.at (ap at_in e)
  item_placed Null p bad e = moved p bad.at (ap at_in e)

abbrev pub HasTree : Data → Type 0
HasTree d = (t : Tree) × (tree_of d ≡ Ok t)

item_good : (at : ℕ) (seen : Seen) (d : Data) (added : List ℕ) → IsItem (tree_of d) (item_in seen) added → (structure : Bool)
    → item_at at seen ≡ Ok structure → HasTree d
item_good at (SeenItem (Ok s)) d added h structure e = (h.0, h.1)
item_good at (SeenItem (Err b)) d added h structure e = absurd (cc)
item_good at (SeenItems r) d added h structure e = absurd (cc)
item_good at (Text s) d added h structure e = absurd (cc)
item_good at (Truth b) d added h structure e = absurd (cc)
item_good at Other d added h structure e = absurd (cc)

-- ---- items

abbrev pub SoPlaced : ℕ → ℕ → List Token → List Token → Result (Unit {0}) BadItem → Type 0
SoPlaced total depth first now (Ok done) = (left : ℕ) → BlamesFirst depth now left → BlamesFirst depth first left
SoPlaced total depth first now (Err bad) = BlamesFirst depth first (total - bad.at)

pub record ItemsOn (total depth : ℕ) (first now : List Token) (all : Result (Unit {0}) BadItem) : Type 0 where
  pub stops : (left : ℕ) → ItemsStopAt depth now left → ItemsStopAt depth first left
  pub blames : SoPlaced total depth first now all

module _ (total depth : ℕ) (first : List Token) where
  pub items_on : ItemsOn total depth first first (Ok tt)
  items_on = record { stops = λ left h. h; blames = λ left h. h }

  module _ (now : List Token) (all : Result (Unit {0}) BadItem) (so : ItemsOn total depth first now all) (going : after_end_array now ≡ None) where
    blames_turn : (rest : List Token) (d : Data) → Gives depth now d rest → (all : Result (Unit {0}) BadItem) (one : Result Bool BadItem)
        → SoPlaced total depth first now all → ((structure : Bool) → one ≡ Ok structure → HasTree d)
        → ((bad : BadItem) → one ≡ Err bad → Blames depth now (total - bad.at)) → SoPlaced total depth first rest (both_at all one)
    blames_turn rest d gives (Ok done) (Ok s) b good wrong = λ left h. b left (a_later depth now rest d (good s refl).0 left going gives (good s refl).1 h)
    blames_turn rest d gives (Ok done) (Err bad) b good wrong = b (total - bad.at) (the_first depth now (total - bad.at) going (wrong bad refl))
    blames_turn rest d gives (Err bad) one b good wrong = b

    pub items_on_turn : (at : ℕ) → total - at ≡ length now → (rest : List Token) (d : Data) (seen : Seen) (added : List ℕ) → Gives depth now d rest
        → IsItem (tree_of d) (item_in seen) added → IsPlaced total depth now seen → ItemsOn total depth first rest (both_at all (item_at at seen))
    items_on_turn at here rest d seen added gives is placed = record {
      stops = λ left h. so.stops left (behind_item depth now rest d left going gives h);
      blames = blames_turn rest d gives all (item_at at seen) so.blames (item_good at seen d added is) (item_placed total depth now at here seen placed);
    }

    pub items_on_stop : (e : Stop) → StopsThere total depth now e → StopsInItems total depth first e
    items_on_stop (NotJson at) h = so.stops (total - at) (in_item depth now (total - at) going h)
    items_on_stop NoMemory h = tt

  pub items_placed : (now : List Token) (all : Result (Unit {0}) BadItem) → ItemsOn total depth first now all → ArePlaced total depth first all
  items_placed now (Ok done) so = tt
  items_placed now (Err bad) so = so.blames

-- ---- members

pub record MembersOn (total depth : ℕ) (first now : List Token) (value : Option Seen) : Type 0 where
  pub stops : (left : ℕ) → MembersStopAt depth now left → MembersStopAt depth first left
  pub met : Option (List Token)
  pub last : (vs : List Token) → LastValue depth now met vs → LastValue depth first None vs
  pub placed : (bad : BadItem) → value ≡ Some (SeenItems (Err bad)) → (vs : List Token) × (met ≡ Some vs) × BlamesArray depth vs (total - bad.at)

module _ (total depth : ℕ) (first : List Token) where
  pub members_on : MembersOn total depth first first None
  members_on = record { stops = λ left h. h; met = None; last = λ vs h. h; placed = λ bad e. absurd (cc) }

  module _ (now : List Token) (met : SeenMembers) (so : MembersOn total depth first now met.value) where
    pub members_on_turn : (name : List ℕ) (us rest : List Token) (d : Data) (next : SeenMembers) → read_key now ≡ Some (Some name, us)
        → Gives depth us d rest → MeetsPlaced total depth name us met next → MembersOn total depth first rest next.value
    members_on_turn name us rest d next key gives (inl p) = record {
      stops = λ left h. so.stops left (behind_member depth now us rest name d left key gives h);
      met = Some us;
      last = λ vs h. so.last vs (this_value depth now us rest vs so.met name d key p.0 gives h);
      placed = λ bad e. (us, refl, p.1 bad e);
    }
    members_on_turn name us rest d next key gives (inr p) = record {
      stops = λ left h. so.stops left (behind_member depth now us rest name d left key gives h);
      met = so.met;
      last = λ vs h. so.last vs (another depth now us rest vs so.met name d key p.0 gives h);
      placed = λ bad e. so.placed bad (sym p.1 ∙ e);
    }

    pub members_on_stop : (name : List ℕ) (us : List Token) → read_key now ≡ Some (Some name, us) → (e : Stop) → StopsThere total depth us e
        → StopsInMembers total depth first e
    members_on_stop name us key (NotJson at) h = so.stops (total - at) (in_member depth now us name (total - at) key h)
    members_on_stop name us key NoMemory h = tt

    pub no_key_there : read_key now ≡ None → (at : ℕ) → total - at ≡ length now → StopsInMembers total depth first (NotJson at)
    no_key_there key at here = so.stops (total - at) (subst (λ n. MembersStopAt depth now n) (sym here) (no_member depth now key))

    ends_at : (at : ℕ) (rest : List Token) (d : Data) (bad : BadItem) → read_key now ≡ Some (None, rest) → IsEndPlaced at met.value d (Err bad)
        → ((bad.at ≡ at) × (is_open d ≡ false))
        ⊎ ((is_open d ≡ true) × ((vs : List Token) × LastValue depth first None vs × BlamesArray depth vs (total - bad.at)))
    ends_at at rest d bad key (inl p) = inl p
    ends_at at rest d bad key (inr p) =
        let k = so.placed bad p.1 in
        inr (p.0, (k.0, so.last k.0 (subst (λ m. LastValue depth now m k.0) (sym k.1) (no_more depth now rest k.0 key)), k.2))

    pub members_placed : (at : ℕ) (rest : List Token) (json : Members) (old new : List ℕ) (item : Result Bool BadItem) → read_key now ≡ Some (None, rest)
        → converted (λ ms. of_members ms no_members) (members (value depth) (length first) first) ≡ Some (json, rest)
        → AddsItem (tree_of (object json)) old new (unplaced item) → IsEndPlaced at met.value (object json) item
        → IsItemPlaced total depth at first item
    members_placed at rest json old new (Ok s) key gives adds end = tt
    members_placed at rest json old new (Err bad) key gives adds end = record {
      json = json;
      rest = rest;
      gives = gives;
      why = adds.is;
      place = ends_at at rest (object json) bad key end;
    }

-- ---- a value

abbrev value_at_in : Option Seen → ℕ
value_at_in (Some (SeenItems (Err bad))) = bad.at
value_at_in seen = 0

module _ (total depth : ℕ) (ts : List Token) where
  pub value_placed : (seen : Seen) → IsPlaced total depth ts seen → IsValuePlaced total depth ts (Some seen)
  value_placed (SeenItems (Err b)) p bad e = subst (λ (n : ℕ). BlamesArray depth ts (total - n)) (ap value_at_in e) p.1
  value_placed (SeenItems (Ok u)) p bad e = absurd (cc)
  value_placed (SeenItem r) p bad e = absurd (cc)
  value_placed (Text s) p bad e = absurd (cc)
  value_placed (Truth b) p bad e = absurd (cc)
  value_placed (Number w) p bad e = absurd (cc)
  value_placed Null p bad e = absurd (cc)

  module _ (us : List Token) (some : 0 < depth) where
    pub array_stops : ts ≡ Token.begin_array ∷ us → (e : Stop) → StopsInItems total (depth - 1) us e → StopsThere total depth ts e
    array_stops is (NotJson at) h = in_array depth ts us (total - at) some is h
    array_stops is NoMemory h = tt

    pub object_stops : ts ≡ Token.begin_object ∷ us → (e : Stop) → StopsInMembers total (depth - 1) us e → StopsThere total depth ts e
    object_stops is (NotJson at) h = in_object depth ts us (total - at) some is h
    object_stops is NoMemory h = tt

    pub array_placed : ts ≡ Token.begin_array ∷ us → (rest : List Token) (ds : Items) → Gives depth ts (array ds) rest → (r : Result (Unit {0}) BadItem)
        → ArePlaced total (depth - 1) us r → IsPlaced total depth ts (SeenItems r)
    array_placed is rest ds gives (Ok done) p = itself depth ts rest (array ds) BadMembers gives refl refl
    array_placed is rest ds gives (Err bad) p =
        (itself depth ts rest (array ds) BadMembers gives refl refl, in_items depth ts us (total - bad.at) some is p)

    object_blamed : ts ≡ Token.begin_object ∷ us → (at : ℕ) → total - at ≡ length ts → (bad : BadItem) (b : BlamesMembers total (depth - 1) at us bad)
        → Gives depth ts (object b.json) b.rest
        → ((bad.at ≡ at) × (is_open (object b.json) ≡ false))
        ⊎ ((is_open (object b.json) ≡ true) × ((vs : List Token) × LastValue (depth - 1) us None vs × BlamesArray (depth - 1) vs (total - bad.at)))
        → Blames depth ts (total - bad.at)
    object_blamed is at here bad b gives (inl k) =
        moved total depth ts at here (itself depth ts b.rest (object b.json) bad.bad gives b.why k.1) bad.at (sym k.0)
    object_blamed is at here bad b gives (inr k) =
        in_value depth ts us k.1.0 b.rest (object b.json) (total - bad.at) gives k.0 some is k.1.1 k.1.2

    pub object_placed : ts ≡ Token.begin_object ∷ us → (at : ℕ) → total - at ≡ length ts
        → ((ms : Members) (rest : List Token)
        → converted (λ m. of_members m no_members) (members (value (depth - 1)) (length us) us) ≡ Some (ms, rest) → Gives depth ts (object ms) rest)
        → (r : Result Bool BadItem) → IsItemPlaced total (depth - 1) at us r → IsPlaced total depth ts (SeenItem r)
    object_placed is at here opened (Ok s) p = tt
    object_placed is at here opened (Err bad) p = object_blamed is at here bad p (opened p.json p.rest p.gives) p.place

-- ---- a text

module _ (text : List ℕ) (ts : List Token) (is : ts ≡ tokens text) where
  pub text_parsed : (rest : List Token) (d : Data) → Gives max_depth ts d rest → rest ≡ [] → read text ≡ Some d
  text_parsed rest d gives none =
      let j = converted_some of_json (value max_depth ts) d rest gives in
      let whole : value max_depth (tokens text) ≡ Some (j.0, []) = ap (value max_depth) (sym is) ∙ j.1 ∙ ap (λ s. Some (j.0, s)) none in
      ap (λ o. option_and_then of_json (option_and_then (λ p. if_last p.0 p.1) o)) whole ∙ j.2

  pub text_behind : (rest : List Token) (d : Data) (taken : ℕ) → Gives max_depth ts d rest → rest ≢ [] → taken + length rest ≡ length ts
      → TextStopsAt (tokens text) (length (tokens text) - taken)
  text_behind rest d taken gives some count =
      inr (d, rest, subst (λ (us : List Token). Gives max_depth us d rest) is gives, some, omega (arith, count, ap length is))

  module _ (total : ℕ) (all : total ≡ length ts) where
    pub text_stops : (e : Stop) → StopsThere total max_depth ts e → StopsInText text e
    text_stops (NotJson at) h =
        inl (subst (λ us. StopsAt max_depth us (length us - at)) is (subst (λ n. StopsAt max_depth ts (n - at)) all h))
    text_stops NoMemory h = tt

    one_placed : (one : Result Bool BadItem) → ((bad : BadItem) → one ≡ Err bad → Blames max_depth ts (total - bad.at)) → IsTextPlaced text one
    one_placed (Ok s) wrong = tt
    one_placed (Err bad) wrong =
        subst (λ us. Blames max_depth us (length us - bad.at)) is (subst (λ n. Blames max_depth ts (n - bad.at)) all (wrong bad refl))

    pub text_placed : (seen : Seen) → IsPlaced total max_depth ts seen → IsTextPlaced text (item_at 0 seen)
    text_placed seen placed = one_placed (item_at 0 seen) (item_placed total max_depth ts 0 (omega (arith, all)) seen placed)
