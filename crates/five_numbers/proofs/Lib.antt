pub mod PicLaws
