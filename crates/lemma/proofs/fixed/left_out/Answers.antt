-- `lemma::fixed::left_out` meets its contract: no literal but one that compares two terms can be left out.
use Rattle.std.proofs.Common.{inl, inr, refl}
use Rattle.lemma.proofs.fixed.left_out.Goals as goal

pub returns-in-IsTrue : goal.returns-in-IsTrue
returns-in-IsTrue c =
    elim c.in-IsTrue.is [ inl is ↦ rw is.1 refl | inr other ↦ elim other [ inl is ↦ rw is.1 refl | inr is ↦ rw is.2 refl ] ]
