-- What is made of a text that was printed of an input.
use Rattle.std.specs.Prelude.{◌≡◌, ◌≢◌, ℕ, List, [], codes}
use Rattle.ttlv_run.specs.Documents.{IsDocument, LacksDocument}
use Rattle.ttlv_run.specs.declared.gather.Made.{Made}
use Rattle.ttlv_run.specs.declared.gather.Made.TheVariants.{Whole, Lacks}
use Rattle.ttlv_run.specs.declared.job.Product.{Product}
use Rattle.ttlv_run.specs.declared.job.Product.TheVariants.{Values, Document, Page}
use Rattle.ttlv_run.specs.Pages.{page}

-- this is made of a text: of the values of a path they themselves, of messages in hexadecimal a document of XML, of readable lines a page
abbrev pub IsMadeOf : Product → List ℕ → List ℕ → Type 0
IsMadeOf Values text made = (text ≢ []) × (made ≡ text)
IsMadeOf Document text made = IsDocument text made
IsMadeOf Page text made = made ≡ page text

-- nothing is, for this reason in words: there are no values, or XML can't hold a text
abbrev pub LacksFor : Product → List ℕ → List ℕ → Type 0
LacksFor Values text words = (text ≡ []) × (words ≡ codes "no item has this path")
LacksFor Document text words = LacksDocument text words
LacksFor Page text words = ⊥

-- this came of making it
abbrev pub IsMade : {A : Type 0} → Product → List ℕ → Made A → Type 0
IsMade product text (Whole made) = IsMadeOf product text made.items
IsMade product text (Lacks words) = LacksFor product text words.now
