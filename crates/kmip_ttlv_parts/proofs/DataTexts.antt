-- The texts in data are UTF-8.
use Rattle.std.proofs.Common.{List, [], ◌∷◌, map, sym, subst}
use Rattle.std.specs.Prelude.{string_bytes}
use Rattle.std.proofs.lemmas.Str.{IsUtf8-string_bytes, is_utf8-from_IsUtf8}
use Rattle.kmip_ttlv_base.specs.declared.shape.Data.{Data, map-Data, TheFolds.fold-roll-Data, TheFolds.ind-Data}
use Rattle.kmip_ttlv_base.specs.Values.{Value, values_of, view, view_step}
use Rattle.kmip_ttlv_parts.specs.Texts.{Utf8, EachTextIn, TextsAreUtf8}
use Rattle.kmip_ttlv_base.specs.declared.shape.Data.TheOpen as layer

-- the texts in a list of data are UTF-8, if those of each data are
values_texts : {A B : Type 0} (f : B → Data A) → ((b : B) → TextsAreUtf8 (view (f b))) → (bs : List B) → EachTextIn Utf8 (values_of (map view (map f bs)))
values_texts f h [] = tt
values_texts f h (b ∷ bs) = (h b, values_texts f h bs)

-- the texts in one layer of data are UTF-8, if those of each data in it are
layer_texts : {A B : Type 0} (f : B → Data A) → ((b : B) → TextsAreUtf8 (view (f b))) → (y : layer.Data-F A B)
    → TextsAreUtf8 (view_step (map-Data A (Data A) Value view (map-Data A B (Data A) f y)))
layer_texts f h (layer.Text s) = is_utf8-from_IsUtf8 (string_bytes s) (IsUtf8-string_bytes s)
layer_texts f h (layer.Some b) = h b.value
layer_texts f h (layer.Seq v) = values_texts f h v.items
layer_texts f h (layer.Struct name fields) = values_texts f h fields.items
layer_texts f h (layer.Newtype name inner) = h inner.value
layer_texts f h (layer.Tagged tag inner) = h inner.value
layer_texts f h (layer.Structure tag fields) = values_texts f h fields.items
layer_texts f h (layer.NewtypeVariant name variant inner) = h inner.value
layer_texts f h (layer.TupleVariant name variant fields) = values_texts f h fields.items
layer_texts f h y = tt

pub data_texts : {A : Type 0} (d : Data A) → TextsAreUtf8 (view d)
data_texts {A} = ind-Data A (λ d. TextsAreUtf8 (view d)) (λ x y is.
    subst (λ (v : Value). TextsAreUtf8 v) (sym (fold-roll-Data A Value view_step x))
    (subst (λ z. TextsAreUtf8 (view_step (map-Data A (Data A) Value view z))) is (layer_texts (λ e. e.0) (λ e. e.1) y)))
