pub mod WishLaws
