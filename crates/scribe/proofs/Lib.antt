-- Laws for the proofs of functions.
pub mod PutLaws
pub mod TableLaws
pub mod SheetLaws
