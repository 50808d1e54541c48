mod SingleData
mod SingleBack
