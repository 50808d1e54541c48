-- Why there is no message, and what is returned for one.
use Rattle.std.proofs.Common.{◌≡◌, ℕ, ◌+◌, ◌-◌, ◌≤◌, Bool, List, [], Option, None, Some, Result, Ok, Err, subst, arith, refl, inl, inr}
use Rattle.kmip_ttlv_types.specs.Streams.{Behind}
use Rattle.kmip_ttlv_base.specs.declared.error.Error.{Error}
use Rattle.kmip_ttlv_de.specs.StreamMessages.{HasSize, IsUntyped, IsOver, FailsAtHeader, LacksBytes, Arrives, FailsToArrive, in_header, of_no_type}
use Rattle.kmip_ttlv_de.specs.StreamMessages.{over_limit, in_body, Gives, Ends}
use Rattle.kmip_ttlv_de.proofs.Fronts.{HasSize-least, header_came, comes_whole}

stops_over : {A : Type 0} (can_fail : Bool) (limit : Option ℕ) (old new : Option (List ℕ))
    (had head seen : List ℕ) (e : Error A) → had ≡ [] → Behind old new had head 8
    → seen ≡ head → IsOver limit seen e → FailsToArrive can_fail limit old new (Some head) e
stops_over can_fail limit old new had head seen e none more same over =
    let came = header_came old new had head 8 none more in
    over_limit head record {
      consumes = came.0;
      length_is = came.1;
      over = subst
          (λ (l : List ℕ). IsOver limit l e) same over;
    } refl

stops_untyped : {A : Type 0} (can_fail : Bool) (limit : Option ℕ) (old new : Option (List ℕ))
    (had head seen : List ℕ) (e : Error A) → had ≡ [] → Behind old new had head 8
    → seen ≡ head → IsUntyped seen e → FailsToArrive can_fail limit old new (Some head) e
stops_untyped can_fail limit old new had head seen e none more same untyped =
    let came = header_came old new had head 8 none more in
    of_no_type head record {
      consumes = came.0;
      length_is = came.1;
      untyped = subst
          (λ (l : List ℕ). IsUntyped l e) same untyped;
    } refl

-- the header's code is no type's, or the message is larger than the limit
pub stops_at_header : {A : Type 0} (can_fail : Bool) (limit : Option ℕ) (old new : Option (List ℕ))
    (had head seen : List ℕ) (e : Error A) → had ≡ [] → Behind old new had head 8
    → seen ≡ head → FailsAtHeader limit seen e → FailsToArrive can_fail limit old new (Some head) e
stops_at_header can_fail limit old new had head seen e none more same (inl untyped) =
    stops_untyped can_fail limit old new had head seen e none more same untyped
stops_at_header can_fail limit old new had head seen e none more same (inr over) =
    stops_over can_fail limit old new had head seen e none more same over

-- the message came
pub message_comes : (limit : Option ℕ) (old mid new : Option (List ℕ)) (had head seen message : List ℕ) (n : ℕ)
    → had ≡ [] → Behind old mid had head 8 → seen ≡ head
    → HasSize limit seen n → Behind mid new head message (n - 8) → Arrives limit old new message
message_comes limit old mid new had head seen message n none more same size body =
    let came = header_came old mid had head 8 none more in
    comes_whole limit old mid new head message n came.0 came.1
    (subst (λ (l : List ℕ). HasSize limit l n) same size) body

-- the body didn't come
pub stops_in_body : {A : Type 0} (can_fail : Bool) (limit : Option ℕ) (old mid new reused : Option (List ℕ))
    (had head seen : List ℕ) (n : ℕ) (e : Error A) → had ≡ [] → Behind old mid had head 8
    → seen ≡ head → HasSize limit seen n → LacksBytes can_fail mid new (n - 8) e
    → FailsToArrive can_fail limit old new reused e
stops_in_body can_fail limit old mid new reused had head seen n e none more same size lacks =
    let came = header_came old mid had head 8 none more in
    let least : 8 ≤ n = HasSize-least limit seen n size in
    let long : n ≡ 8 + (n - 8) = omega arith in
    in_body head mid (n - 8) came.0 came.1
    (subst (HasSize limit head) long (subst (λ (l : List ℕ). HasSize limit l n) same size)) lacks

-- what is returned for a message that came
pub ends_with : {T A : Type 0} (answers : List ℕ → Result T (Error A) → Type 0) (can_fail : Bool) (limit : Option ℕ)
    (old new : Option (List ℕ)) (message seen : List ℕ) (r : Result T (Error A))
    → Arrives limit old new message → seen ≡ message → answers seen r
    → Ends answers can_fail limit old new (Some message) r
ends_with answers can_fail limit old new message seen (Ok x) comes same answer = record {
  message = message;
  comes = comes;
  is_in_buffer = refl;
  answer = subst (λ (l : List ℕ). answers l (Ok x)) same answer;
}
ends_with answers can_fail limit old new message seen (Err e) comes same answer = inl record {
  message = message;
  comes = comes;
  is_in_buffer = refl;
  answer = subst (λ (l : List ℕ). answers l (Err e)) same answer;
}

pub fresh_stops : {A : Type 0} (can_fail : Bool) (limit : Option ℕ) (old new reused : Option (List ℕ)) (e : Error A)
    → FailsToArrive can_fail limit old new reused e → FailsToArrive can_fail limit old new None e
fresh_stops can_fail limit old new reused e (in_header lacks) = in_header lacks
fresh_stops can_fail limit old new reused e (of_no_type head comes k) = of_no_type head comes tt
fresh_stops can_fail limit old new reused e (over_limit head comes k) = over_limit head comes tt
fresh_stops can_fail limit old new reused e (in_body head mid n taken long size lacks) =
    in_body head mid n taken long size lacks

fresh_gives : {T A : Type 0} (answers : List ℕ → Result T (Error A) → Type 0) (limit : Option ℕ)
    (old new reused : Option (List ℕ)) (r : Result T (Error A)) → Gives answers limit old new reused r
    → Gives answers limit old new None r
fresh_gives answers limit old new reused r g =
    record { message = g.message; comes = g.comes; is_in_buffer = tt; answer = g.answer }

-- no buffer is kept
pub ends_fresh : {T A : Type 0} (answers : List ℕ → Result T (Error A) → Type 0) (can_fail : Bool) (limit : Option ℕ)
    (old new reused : Option (List ℕ)) (r : Result T (Error A))
    → Ends answers can_fail limit old new reused r → Ends answers can_fail limit old new None r
ends_fresh answers can_fail limit old new reused (Ok x) g = fresh_gives answers limit old new reused (Ok x) g
ends_fresh answers can_fail limit old new reused (Err e) (inl g) =
    inl (fresh_gives answers limit old new reused (Err e) g)
ends_fresh answers can_fail limit old new reused (Err e) (inr s) = inr (fresh_stops can_fail limit old new reused e s)
