-- The images of legal records are a list, each list is the images of its records, and each call agrees with the inner one.
use mathlib.Core.Path.{◌≡◌, refl, ap, ◌∙◌}
use mathlib.Core.Bool.{true}
use mathlib.Core.List.{List, [], ◌∷◌, ◌++◌}
use Prim.Native.Nat.{◌*◌, ◌%◌}
use native.Mathlib.Omega.{arith}
use borrow.Author.Tests.{eq-eqb}
use lib.ListN.{length, take, drop, length-append}
use lib.Seq.{take_at, drop_at}
use Rattle.client.specs.declared.Client.{Client}
use Rattle.firmware_layouts.specs.Image.{is_image, image_of}
use Rattle.firmware_layouts.proofs.Layouts.{length_image}
use Rattle.firmware_layouts.proofs.Laws as layouts
use Rattle.firmware.proofs.Calls.{an_image}
use Rattle.firmware_list.specs.Images.{count, each_image, is_list, records_of, images_of}
use Rattle.firmware_list.specs.Calls.{number, list_after, in_use_after, buffer_after, answer_after}
use Rattle.firmware_list.specs.Laws.{EachLegal, Laws}
use Rattle.firmware_list.proofs.Records.{is_images}

length_images : (cs : List Client) → length (images_of cs) ≡ 32 * length cs
unfolding images_of
length_images [] = refl
length_images (c ∷ cs) = length-append (image_of c) (images_of cs) ∙ rw (length_image c, length_images cs) (omega arith)

counted : (cs : List Client) → count (images_of cs) ≡ length cs
counted cs = rw (length_images cs) (omega arith)

whole_images : (cs : List Client) → length (images_of cs) % 32 ≡ 0
whole_images cs = rw (length_images cs) (omega arith)

module _ (c : Client) (cs : List Client) where
  first : take 32 (image_of c ++ images_of cs) ≡ image_of c
  first = take_at (image_of c) (images_of cs) 32 (length_image c)

  others : drop 32 (image_of c ++ images_of cs) ≡ images_of cs
  others = drop_at (image_of c) (images_of cs) 32 (length_image c)

legal_images : (cs : List Client) → EachLegal cs → (each_image is_image (length cs) (images_of cs) ≡ true) × (records_of (length cs) (images_of cs) ≡ cs)
unfolding each_image records_of images_of
legal_images [] legal = (refl, refl)
legal_images (c ∷ cs) ((l, typed), legal) =
    let (is, back) = an_image (image_of c) c ((layouts.laws).has_image c typed l) in
    let (are, backs) = legal_images cs legal in
    (rw (first c cs, others c cs, is, are), rw (first c cs, others c cs, back, backs))

is_list_lem : (cs : List Client) → EachLegal cs → is_list (images_of cs) ≡ true
unfolding is_list
is_list_lem cs legal = rw (eq-eqb (length (images_of cs) % 32) 0 (whole_images cs), counted cs, (legal_images cs legal).0)

pub laws : Laws
laws = record {
  has_list = λ records legal. (is_list_lem records legal, ap (λ n. records_of n (images_of records)) (counted records) ∙ (legal_images records legal).1);
  one_list = λ list o is. is_images list is o;
  agrees = λ list at in_use x e. record {
    number_is = unfold number in rw e;
    list_is = unfold list_after in rw e;
    in_use_is = unfold in_use_after in rw e;
    buffer_is = unfold buffer_after in rw e;
    answer_is = unfold answer_after in rw e;
  };
  refuses = λ list at in_use x e. record {
    number_is = unfold number in rw e;
    list_is = unfold list_after in rw e;
    in_use_is = unfold in_use_after in rw e;
    buffer_is = unfold buffer_after in rw e;
    answer_is = unfold answer_after in rw e;
  };
}
