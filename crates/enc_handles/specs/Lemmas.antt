-- Proofs of the laws of texts. They stand here since an impl's law has to be a term over specs/.
pub mod TextLaws
