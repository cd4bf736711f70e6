pub mod OverLeaves
