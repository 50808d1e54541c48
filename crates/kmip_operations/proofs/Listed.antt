-- Attributes that are listed, piece by piece.
use Rattle.std.proofs.Common.{◌≡◌, ◌+◌, ◌<◌, ℕ, ℤ, true, false, List, Some, String, codes, [], ◌∷◌}
use Rattle.std.proofs.Common.{◌++◌, map, refl, ap, string_bytes, sym, ◌∙◌, subst, append_assoc, get_or, if◌then◌else◌, length, take, suc, arith}
use Rattle.std.proofs.Math.Seq.{take-suc}
use Rattle.std.proofs.lemmas.List.{append-nil, length-take, map-append}
use Rattle.std.proofs.lemmas.List.Elements.{filter-append}
use Rattle.kmip_attributes.specs.declared.attribute.Attribute.{Attribute}
use Rattle.kmip_attributes.specs.declared.structures.Name.{Name}
use Rattle.kmip_operations.specs.declared.attributes.Listing.{Listing}
use Rattle.kmip_operations.specs.Listing.{Saying, a_date, a_kind, a_number, a_state, a_text}
use Rattle.kmip_operations.specs.Listing.{an_algorithm, asked_of, dates_of, if_known, is_asked, meaning_of, name_at}
use Rattle.kmip_operations.specs.Listing.{names_from, own, said_of_it, saying_of, says}
use Rattle.kmip_operations.specs.declared.about.About.{About}
use Rattle.kmip_memory_store.specs.States.{state_number}
use Rattle.kmip_memory_store.specs.declared.object.Dates.{Dates}
use Rattle.kmip_memory_store.specs.declared.object.Object.{Object}
use Rattle.std.specs.Fmt.{decimal}
use Rattle.kmip_operations.specs.Listings.{Adds}

-- nothing is listed
pub adds_none : {A : Type 0} (l : Listing A) → Adds [] l l
adds_none l = record { names = refl; listed = sym (append-nil (map saying_of l.attributes.items)) }

-- what is listed after the other
pub adds_too : {A : Type 0} (one two : List Saying) {first mid last : Listing A} → Adds one first mid → Adds two mid last → Adds (one ++ two) first last
adds_too one two {first} {mid} {last} a b = record {
  names = b.names ∙ a.names;
  listed = b.listed ∙ ap (λ l. l ++ asked_of mid.names.now two) a.listed
      ∙ ap (λ names. (map saying_of first.attributes.items ++ asked_of first.names.now one) ++ asked_of names.now two) a.names
      ∙ append_assoc (map saying_of first.attributes.items) (asked_of first.names.now one) (asked_of first.names.now two)
      ∙ ap (λ l. map saying_of first.attributes.items ++ l) (sym (filter-append (λ x. is_asked first.names.now x.name) one two));
}

-- one attribute is left out, or is the last
pub leaves_out : {A : Type 0} (one : Saying) (l : Listing A) → is_asked l.names.now one.name ≡ false → Adds (one ∷ []) l l
leaves_out one l e = record {
  names = refl;
  listed = sym (append-nil (map saying_of l.attributes.items))
      ∙ ap (λ b. map saying_of l.attributes.items ++ (if b then one ∷ [] else [])) (sym e);
}

pub adds_one : {A : Type 0} (one : Saying) (x : Attribute A) (old new : Listing A) → is_asked old.names.now one.name ≡ true → new.names ≡ old.names
    → new.attributes.items ≡ old.attributes.items ++ x ∷ [] → saying_of x ≡ one → Adds (one ∷ []) old new
adds_one one x old new e names items is = record {
  names = names;
  listed = ap (map saying_of) items ∙ map-append saying_of old.attributes.items (x ∷ [])
      ∙ ap (λ s. map saying_of old.attributes.items ++ s ∷ []) is
      ∙ ap (λ b. map saying_of old.attributes.items ++ (if b then one ∷ [] else [])) (sym e);
}

-- what an attribute of this name says
pub said_as : {A : Type 0} (x : Attribute A) (name : List ℕ) → string_bytes x.name ≡ name
    → saying_of x ≡ record { name = name; index = x.index; meaning = meaning_of x.value }
said_as x name e = ap {B = Saying} (λ n. record { name = n; index = x.index; meaning = meaning_of x.value }) e

-- the names of an object, and one more
names_from_more : {K : Type 0} (names : List (Name K)) (index : ℕ) (x : Name K)
    → names_from index (names ++ x ∷ []) ≡ names_from index names ++ name_at (index + length names) x ∷ []
names_from_more [] index x =
    let e : index ≡ index + 0 = omega arith in ap (λ n. name_at n x ∷ []) e
names_from_more (y ∷ names) index x =
    let e : (index + 1) + length names ≡ index + suc (length names) = omega arith in
    ap (λ l. name_at index y ∷ l) (names_from_more names (index + 1) x ∙ ap (λ n. names_from (index + 1) names ++ name_at n x ∷ []) e)

-- the names before one, and that one
pub names_suc : {K : Type 0} (names : List (Name K)) (i : ℕ) (x : Name K) → i < length names → x ≡ get_or names i x
    → names_from 0 (take (i + 1) names) ≡ names_from 0 (take i names) ++ name_at i x ∷ []
names_suc names i x h e =
    let after : i + 1 ≡ suc i = omega arith in
    let inside : 0 + length (take i names) ≡ i = omega (arith, length-take i names, h) in
    ap (λ n. names_from 0 (take n names)) after ∙ ap (names_from 0) (take-suc names i x h) ∙ ap (λ y. names_from 0 (take i names ++ y ∷ [])) (sym e)
    ∙ names_from_more (take i names) 0 x ∙ ap (λ n. names_from 0 (take i names) ++ name_at n x ∷ []) inside

pub names_listed : {K A : Type 0} (names : List (Name K)) (i : ℕ) (x : Name K) {first mid last : Listing A} → i < length names → x ≡ get_or names i x
    → Adds (names_from 0 (take i names)) first mid → Adds (name_at i x ∷ []) mid last → Adds (names_from 0 (take (i + 1) names)) first last
names_listed names i x {first} {mid} {last} h e so_far one =
    subst (λ all. Adds all first last) (sym (names_suc names i x h e)) (adds_too (names_from 0 (take i names)) (name_at i x ∷ []) so_far one)

-- what a client said is listed
pub about_listed : {K A : Type 0} (about : About K) {a b c d e : Listing A} → Adds (says (codes "Object Type") (a_kind about.object_type) ∷ []) a b
    → Adds (if_known (codes "Cryptographic Algorithm") an_algorithm about.algorithm) b c
    → Adds (if_known (codes "Cryptographic Length") a_number about.length) c d
    → Adds (if_known (codes "Cryptographic Usage Mask") a_number about.usage_mask) d e → Adds (said_of_it about) a e
about_listed about f g h i =
    let kind = says (codes "Object Type") (a_kind about.object_type) ∷ [] in
    let algorithm = if_known (codes "Cryptographic Algorithm") an_algorithm about.algorithm in
    let length = if_known (codes "Cryptographic Length") a_number about.length in
    let mask = if_known (codes "Cryptographic Usage Mask") a_number about.usage_mask in
    adds_too (kind ++ algorithm ++ length) mask (adds_too (kind ++ algorithm) length (adds_too kind algorithm f g) h) i

-- when what happened is listed
pub dates_listed : {A : Type 0} (dates : Dates) (first last : ℤ) {a b c d e f g : Listing A} → first ≡ dates.initial → last ≡ dates.last_change
    → Adds (if_known (codes "Initial Date") a_date (Some first)) a b
    → Adds (if_known (codes "Activation Date") a_date dates.activation) b c
    → Adds (if_known (codes "Deactivation Date") a_date dates.deactivation) c d
    → Adds (if_known (codes "Compromise Date") a_date dates.compromise) d e
    → Adds (if_known (codes "Destroy Date") a_date dates.destroy) e f
    → Adds (if_known (codes "Last Change Date") a_date (Some last)) f g → Adds (dates_of dates) a g
dates_listed dates first_date last_date {a} {b} {c} {d} {e} {f} {g} is_first is_last h i j k l m =
    let begun = subst (λ z. Adds (if_known (codes "Initial Date") a_date (Some z)) a b) is_first h in
    let ended = subst (λ z. Adds (if_known (codes "Last Change Date") a_date (Some z)) f g) is_last m in
    let initial = if_known (codes "Initial Date") a_date (Some dates.initial) in
    let activation = if_known (codes "Activation Date") a_date dates.activation in
    let deactivation = if_known (codes "Deactivation Date") a_date dates.deactivation in
    let compromise = if_known (codes "Compromise Date") a_date dates.compromise in
    let destroy = if_known (codes "Destroy Date") a_date dates.destroy in
    let last = if_known (codes "Last Change Date") a_date (Some dates.last_change) in
    adds_too (initial ++ activation ++ deactivation ++ compromise ++ destroy) last
    (adds_too (initial ++ activation ++ deactivation ++ compromise) destroy
    (adds_too (initial ++ activation ++ deactivation) compromise
    (adds_too (initial ++ activation) deactivation (adds_too initial activation begun i) j) k) l) ended

-- all attributes of an object are listed
pub own_listed : {K A : Type 0} (id : ℕ) (object : Object (About K) K) (text : List ℕ) (state : ℕ) (called : List (Name K)) {a b c d e f : Listing A}
    → text ≡ decimal (id + 1) → state ≡ state_number object.state → called ≡ object.about.names.items
    → Adds (says (codes "Unique Identifier") (a_text text) ∷ []) a b
    → Adds (names_from 0 called) b c → Adds (said_of_it object.about) c d
    → Adds (says (codes "State") (a_state record { number = state }) ∷ []) d e → Adds (dates_of object.dates) e f → Adds (own id object) a f
own_listed id object text state called {a} {b} {c} {d} {e} {f} is_text is_state is_called g h i j k =
    let identifier = says (codes "Unique Identifier") (a_text (decimal (id + 1))) ∷ [] in
    let names = names_from 0 object.about.names.items in
    let said = said_of_it object.about in
    let own_state = says (codes "State") (a_state record { number = state_number object.state }) ∷ [] in
    let named = subst (λ l. Adds (names_from 0 l) b c) is_called h in
    let identified = subst (λ t. Adds (says (codes "Unique Identifier") (a_text t) ∷ []) a b) is_text g in
    let stated = subst (λ n. Adds (says (codes "State") (a_state record { number = n }) ∷ []) d e) is_state j in
    adds_too (identifier ++ names ++ said ++ own_state) (dates_of object.dates)
    (adds_too (identifier ++ names ++ said) own_state (adds_too (identifier ++ names) said (adds_too identifier names identified named) i) stated) k

every : (A : Type 0) (all : List Saying) → asked_of {A = A} [] all ≡ all
every A [] = refl
every A (x ∷ all) = ap (λ l. x ∷ l) (every A all)

-- all are asked for, if none is named
pub all_asked : {A : Type 0} (names : List (String A)) (all : List Saying) → names ≡ [] → asked_of names all ≡ all
all_asked {A} names all e = ap (λ l. asked_of l all) e ∙ every A all
