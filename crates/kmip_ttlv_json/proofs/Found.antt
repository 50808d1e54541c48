-- The items that a walk finds, as the parts of a message's JSON.
use Rattle.std.proofs.Common.{◌≡◌, ◌≢◌, ◌∙◌, inl, inr, ℕ, ◌+◌, ◌-◌, ◌==◌, Bool, true, false, List, [], ◌∷◌, ◌++◌, take, drop, map, if◌then◌else◌, Option}
use Rattle.std.proofs.Common.{length, Some, None, refl, sym, ap, subst, arith, append_assoc, append-nil}
use Rattle.std.specs.Prelude.{codes, Result, Ok, Err, OnErr}
use Rattle.std.proofs.lemmas.Bool.{cases_lt}
use Rattle.std.proofs.lemmas.List.{get_or-take, get_or-drop, get_or_past, length-take}
use Rattle.kmip_ttlv_types.specs.{declared.typ.TtlvType.TtlvType, ItemTypes.code, Places.length_at, declared.typ.TtlvType.TheVariants.Structure}
use Rattle.kmip_ttlv_items.specs.{declared.found.FoundItem.FoundItem, declared.found.Fault.Fault, FoundItems.Lists}
use Rattle.kmip_ttlv_items.specs.ItemWalks.{AreBytes, content_at, Ended, Meets, at_first, Ends}
use Rattle.kmip_ttlv_items.proofs.Completes.{ends}
use Rattle.kmip_ttlv_util.specs.Pieces.{SomeText}
use Rattle.kmip_ttlv_write.specs.GivenItems.{Line, lines, line_of, given_of}
use Rattle.kmip_ttlv_write.proofs.Uniques.{message_has_lines}
use Rattle.kmip_ttlv_json.specs.declared.print.Style.{Style}
use Rattle.kmip_ttlv_json.specs.{declared.print.Spot.Spot, declared.print.Shown.Shown, Jsons.json_line, Jsons.within}
use Rattle.kmip_ttlv_json.specs.Parts.{closes, is_inside, spot_after, gap, opening, value_text, value_part, item_part, kind, parts, spot_behind, first_spot}
use Rattle.kmip_ttlv_json.specs.Printings.{IsJson, IsThere, json_text}
use Rattle.kmip_ttlv_json.proofs.TreeTexts.{ArePlain, AllPlain, kind_code, message_flat}

-- what is made of bytes has none that is too large, also behind its end
pub bytes_plain : (w : List ℕ) → AreBytes w → ArePlain w
bytes_plain w h k = elim (cases_lt k (length w)) [ inl lt ↦ h k lt | inr le ↦ omega (arith, get_or_past w k 0 le) ]

-- of a leaf its value and the end
leaf_part : (style : Style) (shown : Shown) (tag : ℕ) (typ : TtlvType) (content : List ℕ) → typ ≢ Structure
    → value_text style shown tag typ content ++ codes "}" ≡ value_part style shown tag typ content
leaf_part style shown tag Structure content leaf = absurd (leaf refl)
leaf_part style shown tag typ content leaf = refl

-- as the code takes it out of the bytes
pub value_printed : (style : Style) (shown : Shown) (w : List ℕ) (i : FoundItem) → i.typ ≢ Structure → i.length ≡ length_at w i.offset
    → value_text style shown i.tag i.typ (take (i.offset + 8 + i.length - (i.offset + 8)) (drop (i.offset + 8) w)) ++ codes "}"
    ≡ value_part style shown i.tag i.typ (content_at w i.offset)
value_printed style shown w i ne len =
    let n : i.offset + 8 + i.length - (i.offset + 8) ≡ length_at w i.offset = omega (arith, len) in
    rw n (leaf_part style shown i.tag i.typ (content_at w i.offset) ne)

-- a structure's content is not looked at
content_free : (style : Style) (shown : Shown) (tag : ℕ) (typ : TtlvType) (content : List ℕ)
    → value_part style shown tag typ (if code typ == 1 then [] else content) ≡ value_part style shown tag typ content
content_free style shown tag Structure content = refl
content_free style shown tag typ content = refl

-- the lines of found items
abbrev pub found_lines : List ℕ → List FoundItem → List Line
found_lines w xs = map (line_of w) (map given_of xs)

found_both : (w : List ℕ) (xs ys : List FoundItem) → found_lines w (xs ++ ys) ≡ found_lines w xs ++ found_lines w ys
found_both w [] ys = refl
found_both w (x ∷ xs) ys = ap (λ (s : List Line). line_of w (given_of x) ∷ s) (found_both w xs ys)

-- the bytes of part of a message
part_plain : (w : List ℕ) → ArePlain w → (n k : ℕ) → ArePlain (take n (drop k w))
part_plain w plain n k j = elim (cases_lt j n) [
  | inl inside ↦ omega (arith, get_or-take n (drop k w) j 0 inside, get_or-drop k w j 0, plain (k + j))
  | inr past ↦ omega (arith, get_or_past (take n (drop k w)) j 0 (omega (arith, length-take n (drop k w), past)))
]

lines_plain : (w : List ℕ) → ArePlain w → (xs : List FoundItem) → AllPlain (found_lines w xs)
lines_plain w plain [] = tt
lines_plain w plain (x ∷ xs) = (by (code x.typ == 1), lines_plain w plain xs)
  where
    by : (b : Bool) → ArePlain (if b then [] else take x.length (drop (x.offset + 8) w))
    by true = λ k. omega arith
    by false = part_plain w plain x.length (x.offset + 8)

-- those of a message's tree
tree_lines : (w : List ℕ) (xs : List FoundItem) (h : Lists w xs) → found_lines w xs ≡ lines 0 h.message
tree_lines w xs h = ap (found_lines w) h.items ∙ (message_has_lines w h.message h.text).same

pub tree_plain : (w : List ℕ) → ArePlain w → (xs : List FoundItem) (h : Lists w xs) → AllPlain (lines 0 h.message)
tree_plain w plain xs h = subst AllPlain (tree_lines w xs h) (lines_plain w plain xs)

module _ (style : Style) (secrets : ℕ → Bool) (shown : Shown) where
  parts_both : (s : Spot) (xs ys : List Line) → parts style secrets shown s (xs ++ ys) ≡ parts style secrets shown s xs ++ parts style secrets shown
      (spot_behind secrets s xs) ys
  parts_both s [] ys = refl
  parts_both s (l ∷ ls) ys =
      let part = item_part style secrets shown s l.depth l.tag (kind l.code) l.content in
      ap (λ (x : List ℕ). part ++ x) (parts_both (spot_after secrets s l.depth l.tag (kind l.code)) ls ys) ∙ sym (append_assoc part _ _)

  spot_both : (s : Spot) (xs ys : List Line) → spot_behind secrets s (xs ++ ys) ≡ spot_behind secrets (spot_behind secrets s xs) ys
  spot_both s [] ys = refl
  spot_both s (l ∷ ls) ys = spot_both (spot_after secrets s l.depth l.tag (kind l.code)) ls ys

  -- what is printed of an item
  abbrev item_printed : Spot → List ℕ → FoundItem → List ℕ
  item_printed s w i =
      gap s i.depth ++ (opening style i.tag i.typ
      ++ value_part style (within (within shown (is_inside s.secret i.depth)) (secrets i.tag)) i.tag i.typ (content_at w i.offset))

  printed_is : (s : Spot) (w : List ℕ) (i : FoundItem) → IsThere w i → parts style secrets shown s (found_lines w (i ∷ [])) ≡ item_printed s w i
  printed_is s w i there =
      let hid = within (within shown (is_inside s.secret i.depth)) (secrets i.tag) in
      let content = take i.length (drop (i.offset + 8) w) in
      append-nil _
      ∙ ap (λ (k : TtlvType). gap s i.depth ++ (opening style i.tag k ++ value_part style hid i.tag k (if code i.typ == 1 then [] else content)))
      (kind_code i.typ)
      ∙ ap (λ (x : List ℕ). gap s i.depth ++ (opening style i.tag i.typ ++ x)) (content_free style hid i.tag i.typ content
      ∙ ap (λ (n : ℕ). value_part style hid i.tag i.typ (take n (drop (i.offset + 8) w))) there.len)

  -- one more
  parts_more : (w : List ℕ) (xs : List FoundItem) (i : FoundItem) → IsThere w i
      → parts style secrets shown first_spot (found_lines w xs) ++ item_printed (spot_behind secrets first_spot (found_lines w xs)) w i
      ≡ parts style secrets shown first_spot (found_lines w (xs ++ (i ∷ [])))
  parts_more w xs i there =
      rw (found_both w xs (i ∷ []), parts_both first_spot (found_lines w xs) (found_lines w (i ∷ [])))
      (ap (λ (x : List ℕ). parts style secrets shown first_spot (found_lines w xs) ++ x) (sym (printed_is _ w i there)))

  -- as the code prints it
  pub one_more : (w : List ℕ) (xs : List FoundItem) (i : FoundItem) → IsThere w i → (s : Spot) (secret : Bool) (flag : Shown)
      → s ≡ spot_behind secrets first_spot (found_lines w xs) → secret ≡ secrets i.tag → flag ≡ (within (within shown (is_inside s.secret i.depth)) secret)
      → parts style secrets shown first_spot (found_lines w xs)
      ++ (gap s i.depth ++ (opening style i.tag i.typ ++ value_part style flag i.tag i.typ (content_at w i.offset)))
      ≡ parts style secrets shown first_spot (found_lines w (xs ++ (i ∷ [])))
  one_more w xs i there s secret flag is printed_lines hid =
      rw (hid, printed_lines, is) (parts_more w xs i there)

  pub spot_more : (w : List ℕ) (xs : List FoundItem) (i : FoundItem) → spot_after secrets (spot_behind secrets first_spot (found_lines w xs)) i.depth i.tag
      i.typ ≡ spot_behind secrets first_spot (found_lines w (xs ++ (i ∷ [])))
  spot_more w xs i =
      rw (found_both w xs (i ∷ []), spot_both first_spot (found_lines w xs) (found_lines w (i ∷ [])), kind_code i.typ) refl

  -- all items of a message
  line_is : (w : List ℕ) → ArePlain w → (xs : List FoundItem) (h : Lists w xs) → parts style secrets shown first_spot (found_lines w xs)
      ++ (closes (spot_behind secrets first_spot (found_lines w xs)).depth ++ 10 ∷ []) ≡ json_line style secrets shown h.message
  line_is w plain xs h =
      rw (tree_lines w xs h) (sym (append_assoc (parts style secrets shown first_spot (lines 0 h.message)) _ (10 ∷ []))
      ∙ ap (λ (x : List ℕ). x ++ 10 ∷ []) (message_flat style secrets shown h.message w h.text (tree_plain w plain xs h)))

-- a walk over a whole message comes to its end
no_fault : (w : List ℕ) (some : List FoundItem) → Lists w some → (xs : List FoundItem) (fault : Option Fault) → Ended w xs fault → Lists w xs
no_fault w some lists xs None h = h
no_fault w some lists xs (Some f) h = absurd (h.1 some lists)

-- the items that are left
pub record Left (w : List ℕ) (xs : List FoundItem) : Type 0 where
  pub more : List FoundItem
  pub lists : Lists w (xs ++ more)

pub left_over : (w v : List ℕ) → v ≡ w → ArePlain w → (some : List FoundItem) → Lists w some → (p : ℕ) (es : List ℕ) (xs : List FoundItem) → Meets v p es xs
    → Left w xs
left_over w v is plain some lists p es xs met =
    let end : Ends w xs = ends w plain p es xs (subst (λ (s : List ℕ). Meets s p es xs) is met) in
    record { more = end.more; lists = no_fault w some lists (xs ++ end.more) end.fault end.ended }

-- a beginning of the line, up to where some items were met
module _ (style : Style) (secrets : ℕ → Bool) (shown : Shown) (w : List ℕ) (plain : ArePlain w) (xs : List FoundItem) (left : Left w xs) where
  abbrev pub rest_printed : List ℕ
  rest_printed =
      let all = found_lines w (xs ++ left.more) in
      parts style secrets shown (spot_behind secrets first_spot (found_lines w xs)) (found_lines w left.more)
      ++ (closes (spot_behind secrets first_spot all).depth ++ 10 ∷ [])

  begun : parts style secrets shown first_spot (found_lines w xs) ++ rest_printed ≡ json_line style secrets shown left.lists.message
  begun =
      sym (append_assoc (parts style secrets shown first_spot (found_lines w xs)) _ _)
      ∙ ap (λ (x : List ℕ). x ++ (closes (spot_behind secrets first_spot (found_lines w (xs ++ left.more))).depth ++ 10 ∷ []))
      (sym (ap (parts style secrets shown first_spot) (found_both w xs left.more) ∙ parts_both style secrets shown first_spot (found_lines w xs) _))
      ∙ line_is style secrets shown w plain (xs ++ left.more) left.lists

  -- and the line is printed of the message
  pub begun_json : IsJson style secrets shown w (parts style secrets shown first_spot (found_lines w xs) ++ rest_printed) None
  begun_json = record { found = xs ++ left.more; ended = left.lists; is = begun }

-- where a walk over a whole message ended, what is printed is its line
pub json_is : (style : Style) (secrets : ℕ → Bool) (shown : Shown) (w : List ℕ) → ArePlain w → (some : List FoundItem) → Lists w some
    → (xs : List FoundItem) (fault : Option Fault) → Ended w xs fault
    → IsJson style secrets shown w (parts style secrets shown first_spot (found_lines w xs) ++ (closes (spot_behind secrets first_spot (found_lines w xs)).depth
    ++ 10 ∷ [])) fault
json_is style secrets shown w plain some lists xs None ended = record { found = xs; ended = ended; is = line_is style secrets shown w plain xs ended }
json_is style secrets shown w plain some lists xs (Some f) ended = absurd (ended.1 some lists)

-- what is printed of any bytes, whatever it is
pub some_json : (style : Style) (secrets : ℕ → Bool) (shown : Shown) (w : List ℕ) → ArePlain w
    → (text : List ℕ) × (fault : Option Fault) × IsJson style secrets shown w text fault
some_json style secrets shown w plain =
    let end : Ends w [] = ends w plain 0 [] [] (at_first refl refl refl) in
    (json_text style secrets shown w end.more end.fault end.ended, end.fault, record { found = end.more; ended = end.ended; is = refl })

-- it failed, and a beginning of the text was added
pub err_json : {T E X : Type 0} (r : Result T E) (breaks : X → List ℕ → X → Type 0) {style : Style} {secrets : ℕ → Bool} {shown : Shown}
    {w text : List ℕ} {fault : Option Fault} {a b : X} → IsJson style secrets shown w text fault → breaks a text b
    → OnErr r (SomeText (λ t. (fault : Option Fault) × IsJson style secrets shown w t fault) (λ t. breaks a t b))
err_json (Ok x) breaks is holds = tt
err_json (Err e) breaks {text = text} {fault = fault} is holds = record { text = text; is = (fault, is); holds = holds }
