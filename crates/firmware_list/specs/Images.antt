-- A list of servers for C: images of 32 octets one after another (docs/C.md, "Layouts").
use Rattle.std.specs.Prelude.{ℕ, zero, suc, ◌+◌, ◌*◌, ◌/◌, ◌%◌, ◌<◌, ◌≡◌, Bool, true, cond, not, ◌&&◌, ◌||◌, Result, Ok, Err, List, [], ◌∷◌, ◌++◌, eqb, leb, ltb, length, get_or, take, drop}
use Rattle.arithmetic.specs.Octets.{part}
use Rattle.refusals.specs.declared.Refusal.{Refusal}
use Rattle.refusals.specs.declared.Refusal.TheVariants.{ImageNotLegal}
use Rattle.refusals.specs.Numbers.{number}
use Rattle.client.specs.declared.Client.{Client}
use Rattle.client.specs.Record.{fresh}
use Rattle.firmware_layouts.specs.Image.{has_values, is_image, record_in, image_of}

-- how many images there are
abbrev pub count : List ℕ → ℕ
count list = length list / 32

-- the first n pass the test
unfoldable pub each_image : (List ℕ → Bool) → ℕ → List ℕ → Bool
each_image test zero list = true
each_image test (suc n) list = test (take 32 list) && each_image test n (drop 32 list)

-- whole images that pass the test
abbrev pub all_images : (List ℕ → Bool) → List ℕ → Bool
all_images test list = eqb (length list % 32) 0 && each_image test (count list) list

-- whole images, each that of a legal record
unfoldable pub is_list : List ℕ → Bool
is_list list = all_images is_image list

-- the records of the first n
unfoldable pub records_of : ℕ → List ℕ → List Client
records_of zero list = []
records_of (suc n) list = record_in (take 32 list) ∷ records_of n (drop 32 list)

abbrev pub records_in : List ℕ → List Client
records_in list = records_of (count list) list

-- the images of records
unfoldable pub images_of : List Client → List ℕ
images_of [] = []
images_of (c ∷ rest) = image_of c ++ images_of rest

-- ---- what the code's steps come to

-- the first eight of the first n records, each in its place
abbrev pub HoldsFirst : List Client → ℕ → List ℕ → Type 0
HoldsFirst records n list = (k : ℕ) → k < n → k < 8 → get_or records k fresh ≡ record_in (part (32 * k) 32 list)

-- whole images of legal values, whether or not their records are legal
unfoldable pub list_has_values : List ℕ → Bool
list_has_values list = all_images has_values list

-- the records that the inner call is lent: none of more than eight, since 35 refuses an empty list too, and none where an octet has a value that no image has
abbrev pub lent_of : List ℕ → List Client
lent_of list = cond (leb (count list) 8 && list_has_values list) (records_in list) []

-- the refusal by 35 or 29 of a list that is not legal is one by 46
abbrev pub outer_refusal : (is_legal : Bool) → Refusal → Refusal
outer_refusal is_legal r = cond (not is_legal && (eqb (number r) 35 || eqb (number r) 29)) ImageNotLegal r

abbrev pub outer_answer : {A : Type 0} → (is_legal : Bool) → Result A Refusal → Result A Refusal
outer_answer is_legal (Err r) = Err (outer_refusal is_legal r)
outer_answer is_legal (Ok told) = Ok told

-- the list with this record's image in the place of a number; past its end nothing is stored
unfoldable pub with_record : List ℕ → ℕ → Client → List ℕ
with_record list at c = cond (ltb at (count list)) (take (32 * at) list ++ image_of c ++ drop (32 * at + 32) list) list
